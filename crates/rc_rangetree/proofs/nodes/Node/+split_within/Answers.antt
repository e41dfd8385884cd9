use Rattle.std.proofs.Common.{◌≡◌, Some, rules, subst}
use Rattle.rc_model.specs.Tablets.{tablet_of, split_at}
use Rattle.rc_rangetree.specs.declared.nodes.Node.{the_lemmas}
use Rattle.rc_rangetree.specs.declared.nodes.Node.TheVariants.{Fork}
use Rattle.rc_rangetree.specs.Nodes.{leaves, is_made, HasBounds, IsSearchTree}
use Rattle.rc_rangetree.proofs.Forks.{is_fork, left_tree, right_tree, find_left, find_right, split_left, split_right}
use Rattle.rc_rangetree.proofs.Forks.{changed_left, changed_right, some_left}
use Rattle.rc_rangetree.proofs.Covered.{length-split_at}
use Rattle.rc_rangetree.proofs.nodes.Node.+split_within.Goals as goal

pub split_within-requires : goal.split_within-requires
split_within-requires g t c κs within =
    let f = is_fork c.requires.tree c.in-Fork.is in
    let tree : IsSearchTree c.deref_mut.result.now = left_tree c.requires.tree c.in-Fork.is _ c.deref_mut.ensures.value in
    let found : tablet_of (leaves c.deref_mut.result.now) c.args.tablet.range.table c.args.at ≡ Some c.args.tablet =
    cc (find_left f c.if-is_before.ensures, c.requires.found) in
    search (rules, the_lemmas)

pub split_within-requires-else-is_before : goal.split_within-requires-else-is_before
split_within-requires-else-is_before g t c κs within =
    let f = is_fork c.requires.tree c.in-Fork.is in
    let tree : IsSearchTree c.deref_mut-else-is_before.result.now =
    right_tree c.requires.tree c.in-Fork.is _ c.deref_mut-else-is_before.ensures.value in
    let found : tablet_of (leaves c.deref_mut-else-is_before.result.now) c.args.tablet.range.table c.args.at ≡ Some
    c.args.tablet = cc (find_right f c.if-is_before.ensures, c.requires.found) in
    search (rules, the_lemmas)

pub returns-then-is_before-clause-list : goal.returns-then-is_before-clause-list
returns-then-is_before-clause-list g t c =
    let f = is_fork c.requires.tree c.in-Fork.is in
    changed_left (is_made c.split_within.result) (leaves c.split_within.new.self) (leaves c.in-Fork.left.value)
    (leaves c.in-Fork.right.value) (leaves c.args.self.now)
    (split_at c.args.tablet.range.table c.args.at (leaves c.args.self.now))
    (split_at c.args.tablet.range.table c.args.at (leaves c.in-Fork.left.value)) f.are
    (split_left f c.if-is_before.ensures c.requires.found)
    (rw c.deref_mut.ensures.value at c.split_within.ensures.list)

pub returns-else-is_before-clause-list : goal.returns-else-is_before-clause-list
returns-else-is_before-clause-list g t c =
    let f = is_fork c.requires.tree c.in-Fork.is in
    changed_right (is_made c.split_within-else-is_before.result) (leaves c.split_within-else-is_before.new.self)
    (leaves c.in-Fork.left.value) (leaves c.in-Fork.right.value) (leaves c.args.self.now)
    (split_at c.args.tablet.range.table c.args.at (leaves c.args.self.now))
    (split_at c.args.tablet.range.table c.args.at (leaves c.in-Fork.right.value)) f.are
    (split_right f c.if-is_before.ensures)
    (rw c.deref_mut-else-is_before.ensures.value at c.split_within-else-is_before.ensures.list)

pub returns-then-is_before-clause-bounds : goal.returns-then-is_before-clause-bounds
returns-then-is_before-clause-bounds g t c =
    let bounds : HasBounds (Fork c.in-Fork.bound c.in-Fork.left c.in-Fork.right) = subst HasBounds c.in-Fork.is c.requires.tree.bounds in
    let f = is_fork c.requires.tree c.in-Fork.is in
    let found : tablet_of (leaves c.in-Fork.left.value) c.args.tablet.range.table c.args.at ≡ Some c.args.tablet =
    cc (find_left f c.if-is_before.ensures, c.requires.found) in (
      bounds.0,
      c.split_within.ensures.bounds,
      bounds.2,
      some_left (is_made c.split_within.result) (leaves c.split_within.new.self) (leaves c.in-Fork.left.value)
          (split_at c.args.tablet.range.table c.args.at (leaves c.in-Fork.left.value))
          (rw c.deref_mut.ensures.value at c.split_within.ensures.list) bounds.3
          (length-split_at (leaves c.in-Fork.left.value) c.args.tablet.range.table c.args.at c.args.tablet found),
    )
