use Rattle.std.proofs.Common.{rules}
use Rattle.rc_rangetree.specs.declared.nodes.Node.{the_lemmas}
use Rattle.rc_rangetree.specs.Nodes.{IsSearchTree}
use Rattle.rc_rangetree.proofs.Forks.{is_fork, left_tree, right_tree, has_range_left, has_range_right, assigned_left, assigned_right}
use Rattle.rc_rangetree.proofs.nodes.Node.+assign.Goals as goal

pub assign-requires : goal.assign-requires
assign-requires g t c κs within =
    let tree : IsSearchTree c.deref_mut.result.now = left_tree c.requires c.in-Fork.is _ c.deref_mut.ensures.value in
    search (rules, the_lemmas)

pub assign-requires-else-is_before : goal.assign-requires-else-is_before
assign-requires-else-is_before g t c κs within =
    let tree : IsSearchTree c.deref_mut-else-is_before.result.now =
    right_tree c.requires c.in-Fork.is _ c.deref_mut-else-is_before.ensures.value in
    search (rules, the_lemmas)

pub returns-then-is_before-clause-found : goal.returns-then-is_before-clause-found
returns-then-is_before-clause-found g t c = cc (has_range_left c.args.range (is_fork c.requires c.in-Fork.is) c.if-is_before.ensures)

pub returns-then-is_before-clause-list : goal.returns-then-is_before-clause-list
returns-then-is_before-clause-list g t c =
    cc (assigned_left c.args.range c.args.owner c.args.term (is_fork c.requires c.in-Fork.is) c.if-is_before.ensures)

pub returns-else-is_before-clause-found : goal.returns-else-is_before-clause-found
returns-else-is_before-clause-found g t c = cc (has_range_right c.args.range (is_fork c.requires c.in-Fork.is) c.if-is_before.ensures)

pub returns-else-is_before-clause-list : goal.returns-else-is_before-clause-list
returns-else-is_before-clause-list g t c =
    cc (assigned_right c.args.range c.args.owner c.args.term (is_fork c.requires c.in-Fork.is) c.if-is_before.ensures)
