use Rattle.std.proofs.Common.{◌≡◌, false, arith}
use Rattle.rc_model.specs.Tablets.{has_range}
use Rattle.rc_rangetree.specs.Nodes.{leaves}
use Rattle.rc_rangetree.proofs.Appended.{assigned-none}
use Rattle.rc_rangetree.proofs.Changes.{same_tree, searchable, tree_assigned}
use Rattle.rc_rangetree.proofs.trees.RangeTree.assign.Goals as goal
use Rattle.rc_rangetree.proofs.trees.RangeTree.assign.Goals.{then-assign, else-assign}

pub assign-requires : goal.assign-requires
assign-requires g c = searchable c.self.invariant

pub invariant_of-self : goal.invariant_of-self
invariant_of-self g c =
    tree_assigned c.args.range c.args.owner c.args.term c.self.invariant c.assign.ensures.list c.assign.ensures.bounds
    (omega (arith, c.assign.ensures.depth, c.self.invariant.shallow))

pub returns-clause-err : goal.returns-clause-err
returns-clause-err g c =
    elim c.if-assign.branch [
      | then-assign w ↦ rw (w.result-is) tt
      | else-assign w ↦
          let absent : has_range c.args.range (leaves c.self.inside.root) ≡ false = cc in
          let none = assigned-none c.args.range c.args.owner c.args.term (leaves c.self.inside.root) absent in
          let list : leaves c.assign.new.self ≡ leaves c.self.inside.root = cc (none, c.assign.ensures.list) in
          rw (w.result-is) (same_tree c.self.inside.root c.assign.new.self c.self.view_is list c.assign.ensures.forks)
    ]
