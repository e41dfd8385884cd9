use Rattle.std.proofs.Common.{subst, arith}
use Rattle.std.proofs.lemmas.Grind.{common_steps}
use Rattle.rc_ownership.specs.Rows.{AreCounted}
use Rattle.rc_ownership.proofs.PartRows.{counted-new}
use Rattle.rc_ownership.proofs.part.FetchedPart.new.Goals as goal

pub invariant_of-result : goal.invariant_of-result
invariant_of-result c =
    subst (λ n. AreCounted c.in_ok-ordered.ordered.items n 0) (grind (arith, common_steps))
    (counted-new c.in_ok-ordered.ordered.items c.args.rows.now c.in_ok-ordered.ensures)
