use Rattle.std.proofs.Common.{Err, sym, ap, ◌∙◌, arith}
use Rattle.rc_traces.specs.Listed.{listed}
use Rattle.rc_traces.specs.Trace.{of_value, trace_of}
use Rattle.rc_reading.proofs.Texts.{text_says, text_and_more, text_refused}
use Rattle.rc_traces.proofs.reading.read_codes.Goals as goal

pub returns-in_err-listed-clause-bad : goal.returns-in_err-listed-clause-bad
returns-in_err-listed-clause-bad g c place is =
    let bad = c.in_err-listed.ensures.bad place (grind (arith, is)) in
    ap (of_value g.R.Said.said) (text_refused c.args.text.now _ c.in_ok-reader.ensures.ok bad.1) ∙ ap Err (sym bad.0)

pub returns-in-Some-clause-bad : goal.returns-in-Some-clause-bad
returns-in-Some-clause-bad g c place is =
    ap (of_value g.R.Said.said) (text_and_more c.args.text.now _ c.in_ok-reader.ensures.ok
    (λ d. listed (trace_of g.R.Said.said d)) _ _ _ _ c.in_ok-listed.ensures.ok c.in-Some.ensures.value)
    ∙ ap Err (cc)

pub returns-clause-ok : goal.returns-clause-ok
returns-clause-ok g c =
    let d = text_says c.args.text.now _ c.in_ok-reader.ensures.ok (λ d. listed (trace_of g.R.Said.said d)) _
    c.trace.new.reader c.in_ok-listed.ensures.ok (grind arith) in
    sym (ap (λ v. listed (of_value g.R.Said.said v)) d.1 ∙ d.2)
