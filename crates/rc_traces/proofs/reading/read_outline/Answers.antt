use Rattle.std.proofs.Common.{sym, ◌∙◌}
use Rattle.std.proofs.lemmas.Result.{IfOk-weaker}
use Rattle.rc_traces.proofs.Outlined.{outline_read, place_outlined}
use Rattle.rc_traces.specs.Trace.{reading}
use Rattle.rc_traces.proofs.reading.read_outline.Goals as goal

pub returns-clause-ok : goal.returns-clause-ok
returns-clause-ok c =
    IfOk-weaker c.read_bytes.result _ _ (λ s e. sym (outline_read c.args.bytes.now) ∙ e) c.read_bytes.ensures.ok

pub returns-clause-bad : goal.returns-clause-bad
returns-clause-bad c place is = place_outlined (reading c.args.bytes.now) place
    (sym (outline_read c.args.bytes.now) ∙ c.read_bytes.ensures.bad place is)
