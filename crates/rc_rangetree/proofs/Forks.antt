-- What is known of a node that is a fork, and what a search down to one of its ends finds and changes.
use Rattle.std.proofs.Common.{◌≡◌, ℕ, ◌+◌, ◌<◌, ◌≤◌, Bool, true, false, cond, List, ◌++◌, length, Some, None, Box, sym}
use Rattle.std.proofs.Common.{ap, ◌∙◌, subst, arith, append_assoc, length-append}
use Rattle.std.proofs.lemmas.Bool.{or_parts}
use Rattle.std.proofs.Math.Bool.{or-false}
use Rattle.rc_model.specs.Model.{ServerId, Tablet, KeyRange, tablet_of, tablets_of, has_table, insert_tablet, count_to_mark, split_at}
use Rattle.rc_model.specs.Model.{has_range, assigned}
use Rattle.rc_rangetree.specs.declared.points.Point.{Point}
use Rattle.rc_rangetree.specs.declared.nodes.Node.{Node}
use Rattle.rc_rangetree.specs.declared.nodes.Node.TheVariants.{Fork}
use Rattle.rc_rangetree.specs.Points.{IsBefore, IsAtOrAfter, BeginsAt}
use Rattle.rc_rangetree.specs.Ranges.{AreInOrder}
use Rattle.rc_rangetree.specs.Nodes.{leaves, HasBounds, IsSearchTree}
use Rattle.rc_rangetree.proofs.InOrder.{AreInOrder-left, AreInOrder-right, tablet_of-before, tablet_of-after}
use Rattle.rc_rangetree.proofs.Appended.{tablet_of-append_left, tablet_of-append_right, split_at-append_left}
use Rattle.rc_rangetree.proofs.Appended.{split_at-append_right, has_range-append, has_range-none, has_table-append}
use Rattle.rc_rangetree.proofs.Appended.{assigned-append_left, assigned-append_right, insert_tablet-append_left}
use Rattle.rc_rangetree.proofs.Appended.{insert_tablet-append_right, tablets_of-append, count_to_mark-le-length}

-- the tablets of a fork, in order: those of its left end, and those of its right one from the bound on
pub record IsForkOf (all : List Tablet) (bound : Point) (left right : List Tablet) : Type 0 where
  pub are : all ≡ left ++ right
  pub in_order : AreInOrder (left ++ right)
  pub begins : BeginsAt bound right

pub is_fork : {A : Type 0} {node : Node A} {bound : Point} {left right : Box (Node A) A} → IsSearchTree node →
    node ≡ Fork bound left right → IsForkOf (leaves node) bound (leaves left.value) (leaves right.value)
is_fork {A} {node} {bound} {left} {right} tree is =
    let bounds : HasBounds (Fork bound left right) = subst HasBounds is tree.bounds in
    record { are = ap leaves is; in_order = subst (λ n. AreInOrder (leaves n)) is tree.in_order; begins = bounds.0 }

pub left_tree : {A : Type 0} {node : Node A} {bound : Point} {left right : Box (Node A) A} → IsSearchTree node →
    node ≡ Fork bound left right → (n : Node A) → n ≡ left.value → IsSearchTree n
left_tree {A} {node} {bound} {left} {right} tree is n same =
    let bounds : HasBounds (Fork bound left right) = subst HasBounds is tree.bounds in
    let f = is_fork tree is in
    subst IsSearchTree (sym same) (record { bounds = bounds.1; in_order = AreInOrder-left _ _ f.in_order })

pub right_tree : {A : Type 0} {node : Node A} {bound : Point} {left right : Box (Node A) A} → IsSearchTree node →
    node ≡ Fork bound left right → (n : Node A) → n ≡ right.value → IsSearchTree n
right_tree {A} {node} {bound} {left} {right} tree is n same =
    let bounds : HasBounds (Fork bound left right) = subst HasBounds is tree.bounds in
    let f = is_fork tree is in
    subst IsSearchTree (sym same) (record { bounds = bounds.2; in_order = AreInOrder-right (leaves left.value) _ f.in_order })

-- a key before the bound is held on the left, and no tablet on the right holds it
none_right : {all left right : List Tablet} {bound : Point} {table key : ℕ} → IsForkOf all bound left right →
    IsBefore table key bound → tablet_of right table key ≡ None
none_right {all} {left} {right} {bound} {table} {key} f before =
    tablet_of-after right table key bound (AreInOrder-right left right f.in_order) f.begins before

none_left : {all left right : List Tablet} {bound : Point} {table key : ℕ} → IsForkOf all bound left right →
    IsAtOrAfter table key bound → tablet_of left table key ≡ None
none_left {all} {left} {right} {bound} {table} {key} f after = tablet_of-before left right table key bound f.in_order f.begins after

pub find_left : {all left right : List Tablet} {bound : Point} {table key : ℕ} → IsForkOf all bound left right →
    IsBefore table key bound → tablet_of all table key ≡ tablet_of left table key
find_left {all} {left} {right} {bound} {table} {key} f before = rw f.are (tablet_of-append_left left right table key (none_right f before))

pub find_right : {all left right : List Tablet} {bound : Point} {table key : ℕ} → IsForkOf all bound left right →
    IsAtOrAfter table key bound → tablet_of all table key ≡ tablet_of right table key
find_right {all} {left} {right} {bound} {table} {key} f after = rw f.are (tablet_of-append_right left right table key (none_left f after))

pub split_left : {all left right : List Tablet} {bound : Point} {table at : ℕ} {tablet : Tablet} →
    IsForkOf all bound left right → IsBefore table at bound → tablet_of all table at ≡ Some tablet →
    split_at table at all ≡ split_at table at left ++ right
split_left {all} {left} {right} {bound} {table} {at} {tablet} f before found =
    rw f.are (split_at-append_left left right table at tablet (sym (find_left f before) ∙ found))

pub split_right : {all left right : List Tablet} {bound : Point} {table at : ℕ} → IsForkOf all bound left right →
    IsAtOrAfter table at bound → split_at table at all ≡ left ++ split_at table at right
split_right {all} {left} {right} {bound} {table} {at} f after = rw f.are (split_at-append_right left right table at (none_left f after))

no_range_right : {all left right : List Tablet} {bound : Point} (range : KeyRange) → IsForkOf all bound left right →
    IsBefore range.table range.lo bound → has_range range right ≡ false
no_range_right {all} {left} {right} {bound} range f before =
    has_range-none range right (AreInOrder-right left right f.in_order) (none_right f before)

no_range_left : {all left right : List Tablet} {bound : Point} (range : KeyRange) → IsForkOf all bound left right →
    IsAtOrAfter range.table range.lo bound → has_range range left ≡ false
no_range_left {all} {left} {right} {bound} range f after =
    has_range-none range left (AreInOrder-left left right f.in_order) (none_left f after)

pub has_range_left : {all left right : List Tablet} {bound : Point} (range : KeyRange) → IsForkOf all bound left right →
    IsBefore range.table range.lo bound → has_range range all ≡ has_range range left
has_range_left {all} {left} {right} {bound} range f before =
    rw f.are (rw (has_range-append range left right, no_range_right range f before) (or-false (has_range range left)))

pub has_range_right : {all left right : List Tablet} {bound : Point} (range : KeyRange) →
    IsForkOf all bound left right → IsAtOrAfter range.table range.lo bound → has_range range all ≡ has_range range right
has_range_right {all} {left} {right} {bound} range f after = rw f.are (rw (has_range-append range left right, no_range_left range f after))

pub assigned_left : {all left right : List Tablet} {bound : Point} (range : KeyRange) (owner : ServerId) (term : ℕ) →
    IsForkOf all bound left right → IsBefore range.table range.lo bound →
    assigned range owner term all ≡ assigned range owner term left ++ right
assigned_left {all} {left} {right} {bound} range owner term f before =
    rw f.are (assigned-append_left range owner term left right (no_range_right range f before))

pub assigned_right : {all left right : List Tablet} {bound : Point} (range : KeyRange) (owner : ServerId) (term : ℕ) →
    IsForkOf all bound left right → IsAtOrAfter range.table range.lo bound → assigned range owner term all ≡ left ++
    assigned range owner term right
assigned_right {all} {left} {right} {bound} range owner term f after =
    rw f.are (assigned-append_right range owner term left right (no_range_left range f after))

no_table : {all left right : List Tablet} {bound : Point} (table : ℕ) → IsForkOf all bound left right →
    has_table all table ≡ false → (has_table left table ≡ false) × (has_table right table ≡ false)
no_table {all} {left} {right} {bound} table f none = or_parts _ _ (sym (has_table-append left right table) ∙ (rw (← f.are) none))

pub no_table_left : {all left right : List Tablet} {bound : Point} (table : ℕ) → IsForkOf all bound left right →
    has_table all table ≡ false → has_table left table ≡ false
no_table_left table f none = (no_table table f none).0

pub no_table_right : {all left right : List Tablet} {bound : Point} (table : ℕ) → IsForkOf all bound left right →
    has_table all table ≡ false → has_table right table ≡ false
no_table_right table f none = (no_table table f none).1

pub insert_left : {all left right : List Tablet} {bound : Point} (new : Tablet) → IsForkOf all bound left right →
    new.range.table < bound.table → insert_tablet new all ≡ insert_tablet new left ++ right
insert_left {all} {left} {right} {bound} new f earlier = rw f.are (insert_tablet-append_left new left right bound f.begins earlier)

pub insert_right : {all left right : List Tablet} {bound : Point} (new : Tablet) → IsForkOf all bound left right →
    bound.table ≤ new.range.table → insert_tablet new all ≡ left ++ insert_tablet new right
insert_right {all} {left} {right} {bound} new f later = rw f.are (insert_tablet-append_right new left right bound f.in_order f.begins later)

-- where a change of one end went through, it is the change of all; else all is as it was
pub changed_left : (b : Bool) (new left right all changed left_changed : List Tablet) → all ≡ left ++ right →
    changed ≡ left_changed ++ right → new ≡ cond b left_changed left → new ++ right ≡ cond b changed all
changed_left true new left right all changed left_changed are change e = cc
changed_left false new left right all changed left_changed are change e = cc

pub changed_right : (b : Bool) (new left right all changed right_changed : List Tablet) → all ≡ left ++ right →
    changed ≡ left ++ right_changed → new ≡ cond b right_changed right → left ++ new ≡ cond b changed all
changed_right true new left right all changed right_changed are change e = cc
changed_right false new left right all changed right_changed are change e = cc

-- where a change adds a tablet to those of the left end, that end has one afterwards too
pub some_left : (b : Bool) (new left changed : List Tablet) → new ≡ cond b changed left → 0 < length left →
    length changed ≡ length left + 1 → 0 < length new
some_left true new left changed e some more = omega (arith, ap length e)
some_left false new left changed e some more = omega (arith, ap length e)

pub owned_both : (owner : ServerId) (before between after all left right : List Tablet) → all ≡ left ++ right →
    between ≡ before ++ tablets_of owner left → after ≡ between ++ tablets_of owner right →
    after ≡ before ++ tablets_of owner all
owned_both owner before between after all left right are first then =
    cc (tablets_of-append owner left right, append_assoc before (tablets_of owner left) (tablets_of owner right))

pub counts_within : (owner : ServerId) (all left right : List Tablet) → all ≡ left ++ right →
    count_to_mark owner left + count_to_mark owner right ≤ length all
counts_within owner all left right are =
    omega (arith, count_to_mark-le-length owner left, count_to_mark-le-length owner right, length-append left right, ap length are)
