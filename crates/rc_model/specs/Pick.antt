-- The choice of the log: which rows of the backups' answers a recovery takes.
use Rattle.std.specs.Prelude.{◌≡◌, ℕ, Bool, not, nat_eq, nat_lt, ◌&&◌, ◌||◌, if◌then◌else◌, List, [], ◌∷◌}
use Rattle.std.specs.Prelude.{filter, Option, Some, None, Result, Ok, Err, map}
use Rattle.std.specs.List.{flat_map, reduce}
use Rattle.rc_types.specs.declared.ids.ServerId.{ServerId}
use Rattle.rc_types.specs.declared.ids.Pair.{Pair}
use Rattle.rc_types.specs.declared.rows.Row.{Row}
use Rattle.rc_types.specs.declared.rows.PlanRow.{PlanRow}
use Rattle.rc_types.specs.declared.rows.Plan.{Plan}
use Rattle.rc_types.specs.declared.faults.Fault.{Fault}
use Rattle.rc_types.specs.declared.faults.Fault.TheVariants.{HeadMissing, SegmentMissing}
use Rattle.rc_model.specs.Ids.{id_before}
use Rattle.rc_model.specs.Ascending.{ascending}

-- a row with the backup that told it
pub record HeldRow : Type 0 where
  pub holder : ServerId
  pub row : Row

-- the rows of one answer
abbrev pub rows_of : ServerId → List Row → List HeldRow
rows_of holder rows = map (λ row. record { holder = holder; row = row }) rows

-- of all answers, in their order
abbrev pub held_rows : List (ServerId × List Row) → List HeldRow
held_rows replies = flat_map (λ reply. rows_of reply.0 reply.1) replies

-- the pair is below the other
abbrev pub is_below : Pair → Pair → Bool
is_below pair other = nat_lt pair.seg other.seg || (nat_eq pair.seg other.seg && nat_lt pair.epoch other.epoch)

-- the greater of two pairs
abbrev pub greater_pair : Pair → Pair → Pair
greater_pair a b = if is_below a b then b else a

-- a closed row always counts, an open one if it is not below the least pair
abbrev pub is_valid : Pair → Row → Bool
is_valid min row = row.closed || not (is_below (record { seg = row.seg; epoch = row.epoch }) min)

abbrev pub is_open_valid : Pair → HeldRow → Bool
is_open_valid min held = not held.row.closed && is_valid min held.row

abbrev pub is_valid_of : Pair → ℕ → HeldRow → Bool
is_valid_of min seg held = nat_eq held.row.seg seg && is_valid min held.row

-- by the one test, and where it puts neither row before the other by the next
abbrev pub then_by : (HeldRow → HeldRow → Bool) → (HeldRow → HeldRow → Bool) → HeldRow → HeldRow → Bool
then_by first next a b = first a b || (not (first b a) && next a b)

-- a greater number comes first
abbrev pub greater_first : (Row → ℕ) → HeldRow → HeldRow → Bool
greater_first number a b = nat_lt (number b.row) (number a.row)

-- by greater epoch, then greater length, then least holder
abbrev pub longer_first : HeldRow → HeldRow → Bool
longer_first =
    then_by (greater_first (λ row. row.epoch))
    (then_by (greater_first (λ row. row.len)) (λ a b. id_before a.holder b.holder))

-- a greater segment, and in one segment as above
abbrev pub head_first : HeldRow → HeldRow → Bool
head_first = then_by (greater_first (λ row. row.seg)) longer_first

-- closed before open, and then as above
abbrev pub closed_first : HeldRow → HeldRow → Bool
closed_first = then_by (λ a b. a.row.closed && not b.row.closed) longer_first

-- the better of two by an order, and where they are alike the one that was there
abbrev pub better : (HeldRow → HeldRow → Bool) → HeldRow → HeldRow → HeldRow
better before best row = if before row best then row else best

-- the first by an order, and of those that are alike the one that stands first in the list
abbrev pub first_by : (HeldRow → HeldRow → Bool) → List HeldRow → Option HeldRow
first_by before rows = reduce (better before) rows

-- the head row: of the valid open rows of the greatest segment that has one
abbrev pub head_row : Pair → List (ServerId × List Row) → Option HeldRow
head_row min replies = first_by head_first (filter (is_open_valid min) (held_rows replies))

-- the row that is taken of a segment other than the head's
abbrev pub row_of : Pair → List (ServerId × List Row) → ℕ → Option HeldRow
row_of min replies seg = first_by closed_first (filter (is_valid_of min seg) (held_rows replies))

-- as a row of a plan
abbrev pub plan_row : HeldRow → PlanRow
plan_row held = record { seg = held.row.seg; holder = held.holder; len = held.row.len }

-- the row that is taken of a segment, given the head row
abbrev pub taken_row : Pair → List (ServerId × List Row) → HeldRow → ℕ → Option HeldRow
taken_row min replies head seg = if nat_eq seg head.row.seg then Some head else row_of min replies seg

-- a segment's row before those of the others; the first segment that has none counts
abbrev pub row_then : ℕ → Option HeldRow → Result (List PlanRow) Fault → Result (List PlanRow) Fault
row_then seg None rest = Err (SegmentMissing seg)
row_then seg (Some held) (Ok rows) = Ok (plan_row held ∷ rows)
row_then seg (Some held) (Err fault) = Err fault

-- a row for each of these segments, or the first one that has none
abbrev pub taken_rows : Pair → List (ServerId × List Row) → HeldRow → List ℕ → Result (List PlanRow) Fault
taken_rows min replies head [] = Ok []
taken_rows min replies head (seg ∷ segs) =
    row_then seg (taken_row min replies head seg) (taken_rows min replies head segs)

abbrev pub plan_of : ℕ → Result (List PlanRow) Fault → Result Plan Fault
plan_of head (Ok rows) = Ok (record { head = head; rows = rows })
plan_of head (Err fault) = Err fault

-- the plan by the head row
abbrev pub pick_by : Pair → List (ServerId × List Row) → Option HeldRow → Result Plan Fault
pick_by min replies None = Err HeadMissing
pick_by min replies (Some head) = plan_of head.row.seg (taken_rows min replies head (ascending head.row.digest))

-- the plan: no head row, F8; a segment of its digest without a valid row, F9 of the least one
abbrev pub pick : Pair → List (ServerId × List Row) → Result Plan Fault
pick min replies = pick_by min replies (head_row min replies)

-- A plan is pickable from these answers, under this least pair.

-- each segment has the row that is taken of it, and the rows stand in the order of the segments
abbrev pub AreTaken : Pair → List (ServerId × List Row) → HeldRow → List ℕ → List PlanRow → Type 0
AreTaken min replies head [] [] = Unit {0}
AreTaken min replies head (seg ∷ segs) (row ∷ rows) =
    ((held : HeldRow) × (taken_row min replies head seg ≡ Some held) × (row ≡ plan_row held)) ×
    AreTaken min replies head segs rows
AreTaken min replies head [] (row ∷ rows) = ⊥
AreTaken min replies head (seg ∷ segs) [] = ⊥

pub record IsPickable (min : Pair) (replies : List (ServerId × List Row)) (plan : Plan) : Type 0 where
  -- a head row exists
  pub head : HeldRow
  pub head_is : head_row min replies ≡ Some head
  -- it names the head
  pub segment : plan.head ≡ head.row.seg
  -- and one row for each different segment of its digest, ascending
  pub taken : AreTaken min replies head (ascending head.row.digest) plan.rows
