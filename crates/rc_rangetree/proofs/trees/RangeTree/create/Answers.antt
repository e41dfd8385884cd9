use Rattle.std.proofs.Common.{◌≡◌, false, ap, ◌∙◌}
use Rattle.rc_model.specs.Model.{KeyRange, has_table, insert_tablet, with_table}
use Rattle.rc_rangetree.specs.Nodes.{leaves}
use Rattle.rc_rangetree.specs.Trees.{Tree}
use Rattle.rc_rangetree.proofs.Changes.{searchable, tree_created}
use Rattle.rc_rangetree.proofs.trees.RangeTree.create.Goals as goal

pub insert-requires-clause-tree : goal.insert-requires-clause-tree
insert-requires-clause-tree g c = searchable c.self.invariant

pub invariant_of-self-2 : goal.invariant_of-self-2
invariant_of-self-2 g c =
    let list : leaves c.self.inside.root ≡ c.args.self.now.tablets = ap (λ (tree : Tree). tree.tablets) c.self.view_is in
    let absent : has_table (leaves c.self.inside.root) c.args.table ≡ false = cc in
    let are : leaves c.insert.new.self ≡ with_table c.args.table c.args.owner c.args.term (leaves c.self.inside.root) =
    c.in_ok-insert.ensures.list
    ∙ ap (λ (range : KeyRange). insert_tablet (record { range = range; owner = c.args.owner; term = c.args.term; crashed = false })
    (leaves c.self.inside.root)) c.all_keys.ensures in
    tree_created c.args.table c.args.owner c.args.term c.self.invariant absent c.if-self-eq-MAX_TABLETS.false
    are c.in_ok-insert.ensures.bounds c.in_ok-insert.ensures.depth
