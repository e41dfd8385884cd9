use Rattle.std.proofs.Common.{◌≡◌, false, rules}
use Rattle.rc_model.specs.Tablets.{has_table, insert_tablet}
use Rattle.rc_rangetree.specs.declared.nodes.Node.{the_lemmas}
use Rattle.rc_rangetree.specs.Nodes.{leaves, is_made, IsSearchTree}
use Rattle.rc_rangetree.proofs.Forks.{is_fork, left_tree, right_tree, no_table_left, no_table_right, insert_left}
use Rattle.rc_rangetree.proofs.Forks.{insert_right, changed_left, changed_right}
use Rattle.rc_rangetree.proofs.nodes.Node.+insert_within.Goals as goal

pub insert_within-requires : goal.insert_within-requires
insert_within-requires g t c κs within =
    let f = is_fork c.requires.tree c.in-Fork.is in
    let tree : IsSearchTree c.deref_mut.result.now = left_tree c.requires.tree c.in-Fork.is _ c.deref_mut.ensures.value in
    let new : has_table (leaves c.deref_mut.result.now) c.args.tablet.range.table ≡ false =
    cc (no_table_left c.args.tablet.range.table f c.requires.new) in
    search (rules, the_lemmas)

pub insert_within-requires-else-tablet-bound : goal.insert_within-requires-else-tablet-bound
insert_within-requires-else-tablet-bound g t c κs within =
    let f = is_fork c.requires.tree c.in-Fork.is in
    let tree : IsSearchTree c.deref_mut-else-tablet-bound.result.now =
    right_tree c.requires.tree c.in-Fork.is _ c.deref_mut-else-tablet-bound.ensures.value in
    let new : has_table (leaves c.deref_mut-else-tablet-bound.result.now) c.args.tablet.range.table ≡ false =
    cc (no_table_right c.args.tablet.range.table f c.requires.new) in
    search (rules, the_lemmas)

pub returns-then-tablet-bound-clause-list : goal.returns-then-tablet-bound-clause-list
returns-then-tablet-bound-clause-list g t c =
    let f = is_fork c.requires.tree c.in-Fork.is in
    changed_left (is_made c.insert_within.result) (leaves c.insert_within.new.self) (leaves c.in-Fork.left.value)
    (leaves c.in-Fork.right.value) (leaves c.args.self.now) (insert_tablet c.args.tablet (leaves c.args.self.now))
    (insert_tablet c.args.tablet (leaves c.in-Fork.left.value)) f.are
    (insert_left c.args.tablet f c.if-tablet-bound.true)
    (rw c.deref_mut.ensures.value at c.insert_within.ensures.list)

pub returns-else-tablet-bound-clause-list : goal.returns-else-tablet-bound-clause-list
returns-else-tablet-bound-clause-list g t c =
    let f = is_fork c.requires.tree c.in-Fork.is in
    changed_right (is_made c.insert_within-else-tablet-bound.result) (leaves c.insert_within-else-tablet-bound.new.self)
    (leaves c.in-Fork.left.value) (leaves c.in-Fork.right.value) (leaves c.args.self.now)
    (insert_tablet c.args.tablet (leaves c.args.self.now))
    (insert_tablet c.args.tablet (leaves c.in-Fork.right.value)) f.are
    (insert_right c.args.tablet f c.if-tablet-bound.false)
    (rw c.deref_mut-else-tablet-bound.ensures.value at c.insert_within-else-tablet-bound.ensures.list)
