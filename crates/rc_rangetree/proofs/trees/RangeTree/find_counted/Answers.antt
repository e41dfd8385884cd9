use Rattle.std.proofs.Common.{ap, arith}
use Rattle.rc_rangetree.specs.Trees.{depth}
use Rattle.rc_rangetree.proofs.Changes.{searchable}
use Rattle.rc_rangetree.proofs.Depths.{greatest-forks_above}
use Rattle.rc_rangetree.proofs.trees.RangeTree.find_counted.Goals as goal

pub find_counted-requires-clause-tree : goal.find_counted-requires-clause-tree
find_counted-requires-clause-tree g c = searchable c.self.invariant

pub returns-clause-within : goal.returns-clause-within
returns-clause-within g c =
    omega (arith, c.find_counted.ensures.within, greatest-forks_above c.self.inside.root c.self.invariant.bounds, ap depth c.self.view_is)

pub returns-clause-shallow : goal.returns-clause-shallow
returns-clause-shallow g c =
    omega (arith, c.self.invariant.shallow, greatest-forks_above c.self.inside.root c.self.invariant.bounds, ap depth c.self.view_is)
