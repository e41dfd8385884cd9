use Rattle.std.proofs.Common.{Err, ap, ◌∙◌, string_bytes}
use Rattle.std.proofs.lemmas.Result.{err_from_is_err_and}
use Rattle.rc_reading.specs.Scenario.{reading}
use Rattle.rc_sim.specs.Verdicts.{Healed}
use Rattle.rc_sim.proofs.Closings.{not_read, no_memory}
use Rattle.rc_sim.proofs.Endings.{answered_of, healed_so}
use Rattle.rc_sim.proofs.NoBreaches.{no_breach_of, healed_is_none}
use Rattle.rc_sim.proofs.healing.heal.Goals as goal

pub returns-clause-answered : goal.returns-clause-answered
returns-clause-answered g c =
    let answer = c.in_ok-answer.answer in
    let done = c.write_answer in
    answered_of (g.R.Read.remaining c.args.reader.now.inner) c.in_ok-bytes.bytes.items c.as_slice.result.now Healed
    done.result answer.verdict (string_bytes answer.text) (g.W.Write.contents c.args.writer.now.inner)
    (g.W.Write.contents done.new.writer.inner) c.in_ok-bytes.ensures.ok c.as_slice.ensures.value
    (healed_so answer.verdict (string_bytes answer.text)) c.in_ok-answer.ensures.ok
    done.ensures.verdict done.ensures.ok done.ensures.cut_short done.ensures.fault

pub returns-clause-no_breach : goal.returns-clause-no_breach
returns-clause-no_breach g c =
    let answer = c.in_ok-answer.answer in
    no_breach_of c.write_answer.result answer.verdict c.write_answer.ensures.verdict
    (healed_is_none (reading c.as_slice.result.now) answer.verdict (string_bytes answer.text) c.in_ok-answer.ensures.ok)

pub returns-in_err-bytes-clause-answered : goal.returns-in_err-bytes-clause-answered
returns-in_err-bytes-clause-answered g c =
    let p = err_from_is_err_and c.from_residual.result c.from_residual.ensures.1 in
    not_read Healed c.from_residual.result c.read_all.result c.in_err-bytes.field-0.0
    (g.R.Read.remaining c.args.reader.now.inner) (g.W.Write.contents c.args.writer.now.inner) (p.1 ∙ ap Err p.2)
    c.in_err-bytes.was c.read_all.ensures.fault

pub returns-in_err-answer-clause-answered : goal.returns-in_err-answer-clause-answered
returns-in_err-answer-clause-answered g c =
    let p = err_from_is_err_and c.from_residual-in_err-answer.result c.from_residual-in_err-answer.ensures.1 in
    no_memory Healed c.from_residual-in_err-answer.result (g.R.Read.remaining c.args.reader.now.inner)
    (g.W.Write.contents c.args.writer.now.inner) (p.1 ∙ ap Err p.2)
