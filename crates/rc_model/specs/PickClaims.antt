-- What the choice of the log obeys, and what its definitions say in other words.
use Rattle.std.specs.Prelude.{◌≡◌, ℕ, ◌↔◌, Bool, IsTrue, true, List, [], Some, None, Ok, Err, filter, map, Contains}
use Rattle.std.specs.List.Sorted.{IsStrictlyIncreasing}
use Rattle.rc_types.specs.declared.ids.ServerId.{ServerId}
use Rattle.rc_types.specs.declared.ids.Pair.{Pair}
use Rattle.rc_types.specs.declared.rows.Row.{Row}
use Rattle.rc_types.specs.declared.rows.Plan.{Plan}
use Rattle.rc_types.specs.declared.faults.Fault.TheVariants.{HeadMissing, SegmentMissing}
use Rattle.rc_model.specs.Ascending.{ascending}
use Rattle.rc_model.specs.Pick.{HeldRow, held_rows, is_valid, is_open_valid, is_valid_of, first_by, head_row, row_of}
use Rattle.rc_model.specs.Pick.{pick, IsPickable}
use Rattle.rc_model.specs.PickOrders.{IsHigher, IsBetter, IsFirst}
use Rattle.rc_model.specs.PickMissing.{HasNoHead, IsLeastMissing}

-- a closed row counts under every least pair
abbrev pub ClosedRowsAreValid : Type 0
ClosedRowsAreValid = (min : Pair) (row : Row) → row.closed ≡ true → is_valid min row ≡ true

-- at most one plan is pickable
abbrev pub OnePlanIsPickable : Type 0
OnePlanIsPickable = (min : Pair) (replies : List (ServerId × List Row)) (one other : Plan) →
    IsPickable min replies one → IsPickable min replies other → one ≡ other

-- a plan is pickable exactly where it is the one that is picked
abbrev pub PickableIsPicked : Type 0
PickableIsPicked = (min : Pair) (replies : List (ServerId × List Row)) (plan : Plan) →
    IsPickable min replies plan ↔ (pick min replies ≡ Ok plan)

-- the rows of a plan are in order of segment: one for each segment that `ascending` lists
abbrev pub RowsAreOfSegments : Type 0
RowsAreOfSegments = (min : Pair) (replies : List (ServerId × List Row)) (plan : Plan)
    (is : IsPickable min replies plan) → map (λ row. row.seg) plan.rows ≡ ascending is.head.row.digest

-- `ascending` lists the segments of a digest, each once and in order
abbrev pub AscendingIncreases : Type 0
AscendingIncreases = (digest : List ℕ) → IsStrictlyIncreasing (ascending digest)

abbrev pub AscendingListsTheSame : Type 0
AscendingListsTheSame = (digest : List ℕ) (seg : ℕ) → Contains (ascending digest) seg ↔ Contains digest seg

-- F8 exactly where no row is open and valid
abbrev pub HeadIsMissing : Type 0
HeadIsMissing = (min : Pair) (replies : List (ServerId × List Row)) →
    (pick min replies ≡ Err HeadMissing) ↔ HasNoHead min replies

-- F9 exactly of the least segment of the head row's digest that has no valid row
abbrev pub SegmentIsMissing : Type 0
SegmentIsMissing = (min : Pair) (replies : List (ServerId × List Row)) (seg : ℕ) →
    (pick min replies ≡ Err (SegmentMissing seg)) ↔ IsLeastMissing min replies seg

-- the test says which of two rows comes first
abbrev pub Tells : (HeldRow → HeldRow → Bool) → (HeldRow → HeldRow → Type 0) → Type 0
Tells before ComesBefore = (one other : HeldRow) → IsTrue (before one other) ↔ ComesBefore one other

-- `first_by` gives the first row by the order and then by its place, and none of no rows
abbrev pub FirstByIsFirst : (HeldRow → HeldRow → Bool) → (HeldRow → HeldRow → Type 0) → Type 0
FirstByIsFirst before ComesBefore =
    (rows : List HeldRow) (first : HeldRow) → (first_by before rows ≡ Some first) ↔ IsFirst ComesBefore rows first

abbrev pub FirstByOfNone : (HeldRow → HeldRow → Bool) → Type 0
FirstByOfNone before = (rows : List HeldRow) → (first_by before rows ≡ None) ↔ (rows ≡ [])

-- the head row is the first, by the greater segment and then as above, of the rows that are open and valid
abbrev pub HeadRowIsFirst : Type 0
HeadRowIsFirst = (min : Pair) (replies : List (ServerId × List Row)) (head : HeldRow) →
    (head_row min replies ≡ Some head) ↔ IsFirst IsHigher (filter (is_open_valid min) (held_rows replies)) head

-- another segment's row is the first, closed before open and then as above, of its valid rows
abbrev pub RowOfIsFirst : Type 0
RowOfIsFirst = (min : Pair) (replies : List (ServerId × List Row)) (seg : ℕ) (held : HeldRow) →
    (row_of min replies seg ≡ Some held) ↔ IsFirst IsBetter (filter (is_valid_of min seg) (held_rows replies)) held
