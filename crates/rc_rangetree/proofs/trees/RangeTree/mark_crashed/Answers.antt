use Rattle.std.proofs.Common.{arith}
use Rattle.rc_rangetree.proofs.Changes.{tree_marked}
use Rattle.rc_rangetree.proofs.trees.RangeTree.mark_crashed.Goals as goal

pub invariant_of-self : goal.invariant_of-self
invariant_of-self g c =
    tree_marked c.args.owner c.self.invariant c.mark_crashed.ensures.marked c.mark_crashed.ensures.bounds
    (omega (arith, c.mark_crashed.ensures.depth, c.self.invariant.shallow))
