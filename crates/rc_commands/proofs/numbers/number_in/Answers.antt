use Rattle.std.proofs.Common.{◌∙◌, ap}
use Rattle.std.specs.List.{slice_index}
use Rattle.rc_commands.proofs.Decimals.{refused, taken}
use Rattle.rc_commands.proofs.numbers.number_in.Goals as goal

pub returns-in_default-clause-number : goal.returns-in_default-clause-number
returns-in_default-clause-number c =
    refused c.args.least c.args.most c.args.text.now
    (λ e. c.if-as_bytes-eq43.false (ap (λ t. slice_index t 0) c.as_bytes.ensures.value ∙ e))
    c.in_default.field-0 c.in_default.ensures.value.0 c.ranges.most.fits

pub returns-then-number-most-clause-number : goal.returns-then-number-most-clause-number
returns-then-number-most-clause-number c =
    taken c.args.least c.args.most c.args.text.now (λ e. c.if-as_bytes-eq43.false (ap (λ t. slice_index t 0) c.as_bytes.ensures.value ∙ e))
    c.in-Ok.number c.in-Ok.ensures.value.0 c.if-least-number.true c.if-number-most.true
