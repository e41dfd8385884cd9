use Rattle.std.proofs.Common.{◌≡◌, ◌<◌, Some, sym, ap, ◌∙◌, arith}
use Rattle.rc_model.specs.Tablets.{tablet_of, split_at}
use Rattle.rc_rangetree.specs.Nodes.{leaves}
use Rattle.rc_rangetree.specs.Trees.{Tree}
use Rattle.rc_rangetree.proofs.InOrder.{tablet_of-table, tablet_of-lo}
use Rattle.rc_rangetree.proofs.Changes.{searchable, tree_split, not_refused}
use Rattle.rc_rangetree.proofs.trees.RangeTree.split.Goals as goal

pub split-requires-clause-tree : goal.split-requires-clause-tree
split-requires-clause-tree g c = searchable c.self.invariant

pub split-requires-clause-found : goal.split-requires-clause-found
split-requires-clause-found g c =
    let list : leaves c.self.inside.root ≡ c.args.self.now.tablets = ap (λ (tree : Tree). tree.tablets) c.self.view_is in
    let found : tablet_of (leaves c.self.inside.root) c.args.table c.args.at ≡ Some c.in-Some.tablet =
    cc (c.find.ensures.value, c.in-Some.is) in
    cc (found, tablet_of-table (leaves c.self.inside.root) c.args.table c.args.at c.in-Some.tablet found)

pub split-requires-clause-inside : goal.split-requires-clause-inside
split-requires-clause-inside g c =
    let list : leaves c.self.inside.root ≡ c.args.self.now.tablets = ap (λ (tree : Tree). tree.tablets) c.self.view_is in
    let found : tablet_of (leaves c.self.inside.root) c.args.table c.args.at ≡ Some c.in-Some.tablet =
    cc (c.find.ensures.value, c.in-Some.is) in
    let unrefused = not_refused c.args.at c.self.inside.count c.in-Some.tablet
    (sym c.split_refusal.ensures ∙ c.in_default-split_refusal.is) in
    omega (arith, tablet_of-lo (leaves c.self.inside.root) c.args.table c.args.at c.in-Some.tablet found, unrefused.0)

pub returns-clause-list : goal.returns-clause-list
returns-clause-list g c =
    let list : leaves c.self.inside.root ≡ c.args.self.now.tablets = ap (λ (tree : Tree). tree.tablets) c.self.view_is in
    let found : tablet_of (leaves c.self.inside.root) c.args.table c.args.at ≡ Some c.in-Some.tablet =
    cc (c.find.ensures.value, c.in-Some.is) in
    cc (tablet_of-table (leaves c.self.inside.root) c.args.table c.args.at c.in-Some.tablet found, c.in_ok-split.ensures.list)

pub invariant_of-self-2 : goal.invariant_of-self-2
invariant_of-self-2 g c =
    let list : leaves c.self.inside.root ≡ c.args.self.now.tablets = ap (λ (tree : Tree). tree.tablets) c.self.view_is in
    let found : tablet_of (leaves c.self.inside.root) c.args.table c.args.at ≡ Some c.in-Some.tablet =
    cc (c.find.ensures.value, c.in-Some.is) in
    let same = tablet_of-table (leaves c.self.inside.root) c.args.table c.args.at c.in-Some.tablet found in
    let unrefused = not_refused c.args.at c.self.inside.count c.in-Some.tablet
    (sym c.split_refusal.ensures ∙ c.in_default-split_refusal.is) in
    let inside : c.in-Some.tablet.range.lo < c.args.at =
    omega (arith, tablet_of-lo (leaves c.self.inside.root) c.args.table c.args.at c.in-Some.tablet found, unrefused.0) in
    let are : leaves c.split.new.self ≡ split_at c.args.table c.args.at (leaves c.self.inside.root) =
    cc (same, c.in_ok-split.ensures.list) in
    tree_split c.args.table c.args.at c.in-Some.tablet c.self.invariant found inside unrefused.1
    are c.in_ok-split.ensures.bounds c.in_ok-split.ensures.depth
