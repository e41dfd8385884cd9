use Rattle.std.proofs.Common.{sym, ap, ◌∙◌}
use Rattle.rc_rangetree.specs.Trees.{depth}
use Rattle.rc_rangetree.proofs.Depths.{greatest-forks_above}
use Rattle.rc_rangetree.proofs.trees.RangeTree.depth.Goals as goal

pub returns-clause-value : goal.returns-clause-value
returns-clause-value g c =
    c.depth.ensures ∙ sym (greatest-forks_above c.self.inside.root c.self.invariant.bounds) ∙ ap depth c.self.view_is
