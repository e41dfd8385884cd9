use Rattle.std.proofs.Common.{◌++◌, ap, ◌∙◌, arith}
use Rattle.rc_model.specs.Attempts.{GivenPart}
use Rattle.rc_keeping.specs.Saved.{given_code}
use Rattle.rc_keeping.proofs.Written.{one-more}
use Rattle.rc_keeping.proofs.book_putting.put_parts.Goals as goal

pub loop-given-preserved : goal.loop-given-preserved
loop-given-preserved c = one-more given_code c.args.parts.now c.loop-given.given-index c.given-item.result c.given-item.result
    c.args.out.now.items c.loop-given.out.items c.put.new.out.items (omega arith) c.given-item.is c.loop-given.invariant
    (c.in_ok-put.ensures.ok ∙ ap (λ (given : GivenPart). c.loop-given.out.items ++ given_code given) c.given.view_is)
