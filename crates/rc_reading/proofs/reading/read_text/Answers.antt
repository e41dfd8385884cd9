use Rattle.std.proofs.Common.{Err, sym, ap, ◌∙◌, arith}
use Rattle.rc_reading.specs.All.{scenario_of, of_value}
use Rattle.rc_reading.proofs.Texts.{text_says, text_and_more, text_refused}
use Rattle.rc_reading.proofs.reading.read_text.Goals as goal

pub returns-in_err-scenario-clause-bad : goal.returns-in_err-scenario-clause-bad
returns-in_err-scenario-clause-bad c place is =
    let bad = c.in_err-scenario.ensures.bad place (grind (arith, is)) in
    ap of_value (text_refused c.args.text.now _ c.in_ok-reader.ensures.ok bad.1) ∙ ap Err (sym bad.0)

pub returns-in-Some-clause-bad : goal.returns-in-Some-clause-bad
returns-in-Some-clause-bad c place is =
    ap of_value (text_and_more c.args.text.now _ c.in_ok-reader.ensures.ok scenario_of _ _ _ _ c.in_ok-scenario.ensures.ok
    c.in-Some.ensures.value)
    ∙ ap Err (cc)

pub returns-in-Ok-clause-ok : goal.returns-in-Ok-clause-ok
returns-in-Ok-clause-ok c =
    let d = text_says c.args.text.now _ c.in_ok-reader.ensures.ok scenario_of _ c.scenario.new.reader c.in_ok-scenario.ensures.ok
    (grind arith) in
    ap of_value d.1 ∙ d.2 ∙ c.in-Ok.is

pub returns-clause-bad : goal.returns-clause-bad
returns-clause-bad c place is =
    let d = text_says c.args.text.now _ c.in_ok-reader.ensures.ok scenario_of _ c.scenario.new.reader c.in_ok-scenario.ensures.ok
    (grind arith) in
    ap of_value d.1 ∙ d.2 ∙ c.in-Err.is ∙ ap Err (cc)
