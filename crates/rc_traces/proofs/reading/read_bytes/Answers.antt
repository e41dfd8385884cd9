use Rattle.std.proofs.Common.{Err, ap, ◌∙◌, sym, arith}
use Rattle.std.proofs.lemmas.Result.{IfOk-weaker}
use Rattle.rc_traces.specs.Trace.{of_value, of_text}
use Rattle.rc_reading.proofs.Bytes.{text_in, no_text, too_long, nothing_read}
use Rattle.rc_traces.proofs.reading.read_bytes.Goals as goal

pub returns-then-is_empty-clause-bad : goal.returns-then-is_empty-clause-bad
returns-then-is_empty-clause-bad g c place is =
    ap (of_value g.R.Said.said) (nothing_read c.args.bytes.now (grind arith)) ∙ ap Err (cc)

pub returns-then-bytes-gt-MOST_BYTES-clause-bad : goal.returns-then-bytes-gt-MOST_BYTES-clause-bad
returns-then-bytes-gt-MOST_BYTES-clause-bad g c place is =
    ap (of_value g.R.Said.said) (too_long c.args.bytes.now (omega arith)) ∙ ap Err (cc)

pub returns-in-Ok-clause-ok : goal.returns-in-Ok-clause-ok
returns-in-Ok-clause-ok g c =
    let same = ap (of_value g.R.Said.said) (text_in c.args.bytes.now (omega arith) c.in-Ok.ensures.cases.1) in
    IfOk-weaker c.read_text.result _ _ (λ s e. same ∙ ap (of_text g.R.Said.said) (sym c.in-Ok.ensures.cases.0) ∙ e)
    c.read_text.ensures.ok

pub returns-in-Ok-clause-bad : goal.returns-in-Ok-clause-bad
returns-in-Ok-clause-bad g c place is =
    ap (of_value g.R.Said.said) (text_in c.args.bytes.now (omega arith) c.in-Ok.ensures.cases.1)
    ∙ ap (of_text g.R.Said.said) (sym c.in-Ok.ensures.cases.0) ∙
    c.read_text.ensures.bad place is

pub returns-in-Err-clause-bad : goal.returns-in-Err-clause-bad
returns-in-Err-clause-bad g c place is =
    ap (of_value g.R.Said.said) (no_text c.args.bytes.now (omega arith) c.in-Err.ensures.cases.0) ∙ ap Err (cc)
