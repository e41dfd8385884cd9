-- Each change of a tree's root leaves a tree.
use Rattle.std.proofs.Common.{◌≡◌, ℕ, ◌+◌, ◌<◌, ◌≤◌, Bool, true, false, cond, nat_eq, List, length, Some, None, refl, sym}
use Rattle.std.proofs.Common.{ap, ◌∙◌, subst, arith}
use Rattle.std.proofs.lemmas.Bool.{eqb-false}
use Rattle.rc_types.specs.declared.faults.Fault.{Fault}
use Rattle.rc_types.specs.declared.faults.Fault.TheVariants.{BadSplit, TooManyTablets, Recovering}
use Rattle.rc_model.specs.Model.{ServerId, Tablet, KeyRange, tablet_of, has_table, whole_table, with_table, marked_crashed, split_at}
use Rattle.rc_model.specs.Model.{assigned, MAX_TABLETS}
use Rattle.rc_rangetree.specs.declared.limits.TheConstants.{MAX_FORKS}
use Rattle.rc_rangetree.specs.declared.nodes.Node.{Node}
use Rattle.rc_rangetree.specs.Ranges.{AreInOrder, CoverTables}
use Rattle.rc_rangetree.specs.Nodes.{leaves, forks_above, tree_at, node_depth, HasBounds, IsSearchTree, IsTree}
use Rattle.rc_rangetree.specs.Refusals.{tablet_split_refusal}
use Rattle.rc_rangetree.specs.Trees.{Tree}
use Rattle.rc_rangetree.proofs.Covered.{in_order, covers_insert, covers_split, covers_marked, covers_assigned}
use Rattle.rc_rangetree.proofs.Covered.{length-insert_tablet, length-split_at, length-marked_crashed, length-assigned}

-- a root with the same tablets below as many forks
pub same_tree : {A : Type 0} {old : Tree} (root new : Node A) → tree_at root ≡ old → leaves new ≡ leaves root →
    forks_above new ≡ forks_above root → tree_at new ≡ old
same_tree root new is tablets forks = rw (tablets, forks) is

-- the root of a tree may be searched
pub searchable : {A : Type 0} {root : Node A} {count : ℕ} → IsTree root count → IsSearchTree root
searchable tree = record { bounds = tree.bounds; in_order = tree.tablets.in_order }

is_tree : {A : Type 0} (root : Node A) (count : ℕ) (tablets : List Tablet) → leaves root ≡ tablets →
    CoverTables tablets → count ≡ length tablets → count ≤ MAX_TABLETS → HasBounds root → node_depth root ≤ MAX_FORKS →
    IsTree root count
is_tree root count tablets are covering counted few bounds shallow = record {
  tablets = record {
    in_order = subst AreInOrder (sym are) (in_order tablets covering);
    covering = subst CoverTables (sym are) covering;
    few = omega (arith, ap length are);
  };
  bounds = bounds;
  shallow = shallow;
  counted = omega (arith, ap length are);
}

pub tree_marked : {A : Type 0} {root new : Node A} {count : ℕ} (owner : ServerId) → IsTree root count →
    leaves new ≡ marked_crashed owner (leaves root) → HasBounds new → node_depth new ≤ MAX_FORKS → IsTree new count
tree_marked {A} {root} {new} {count} owner tree are bounds shallow =
    is_tree new count _ are (covers_marked owner _ tree.tablets.covering)
    (tree.counted ∙ sym (length-marked_crashed owner _)) (omega (arith, tree.counted, tree.tablets.few)) bounds
    shallow

pub tree_assigned : {A : Type 0} {root new : Node A} {count : ℕ} (range : KeyRange) (owner : ServerId) (term : ℕ) →
    IsTree root count → leaves new ≡ assigned range owner term (leaves root) → HasBounds new →
    node_depth new ≤ MAX_FORKS → IsTree new count
tree_assigned {A} {root} {new} {count} range owner term tree are bounds shallow =
    is_tree new count _ are (covers_assigned range owner term _ tree.tablets.covering)
    (tree.counted ∙ sym (length-assigned range owner term _)) (omega (arith, tree.counted, tree.tablets.few)) bounds
    shallow

pub tree_created : {A : Type 0} {root new : Node A} {count : ℕ} (table : ℕ) (owner : ServerId) (term : ℕ) →
    IsTree root count → has_table (leaves root) table ≡ false → (count ≡ MAX_TABLETS → ⊥) →
    leaves new ≡ with_table table owner term (leaves root) → HasBounds new → node_depth new ≤ MAX_FORKS →
    IsTree new (count + 1)
tree_created {A} {root} {new} {count} table owner term tree absent room are bounds shallow =
    is_tree new (count + 1) _ are (covers_insert _ table owner term tree.tablets.covering absent)
    (omega (arith, tree.counted, length-insert_tablet (whole_table table owner term) (leaves root)))
    (omega (arith, tree.counted, tree.tablets.few, room)) bounds shallow

pub tree_split : {A : Type 0} {root new : Node A} {count : ℕ} (table at : ℕ) (tablet : Tablet) → IsTree root count →
    tablet_of (leaves root) table at ≡ Some tablet → tablet.range.lo < at → (count ≡ MAX_TABLETS → ⊥) →
    leaves new ≡ split_at table at (leaves root) → HasBounds new → node_depth new ≤ MAX_FORKS → IsTree new (count + 1)
tree_split {A} {root} {new} {count} table at tablet tree found inside room are bounds shallow =
    is_tree new (count + 1) _ are (covers_split _ table at tablet tree.tablets.covering found inside)
    (omega (arith, tree.counted, length-split_at (leaves root) table at tablet found))
    (omega (arith, tree.counted, tree.tablets.few, room)) bounds shallow

none_of : (x y z : Fault) (a b c : Bool) → cond a (Some x) (cond b (Some y) (cond c (Some z) None)) ≡ None →
    (a ≡ false) × (c ≡ false)
none_of x y z true b c is = cc
none_of x y z false true c is = cc
none_of x y z false false true is = cc
none_of x y z false false false is = (refl, refl)

-- a tablet that may be split at a key begins before it or after it, and is one of fewer than there may be
pub not_refused : (at count : ℕ) (tablet : Tablet) → tablet_split_refusal at count (Some tablet) ≡ None →
    (tablet.range.lo ≡ at → ⊥) × (count ≡ MAX_TABLETS → ⊥)
not_refused at count tablet is =
    let none = none_of BadSplit Recovering TooManyTablets (nat_eq tablet.range.lo at) tablet.crashed (nat_eq count MAX_TABLETS) is in
    (eqb-false _ _ none.0, eqb-false _ _ none.1)
