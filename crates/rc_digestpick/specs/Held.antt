-- A row where it lies, as `rc_model` sees it, and the first of some rows after others.
use Rattle.std.specs.Prelude.{ℕ, Bool, List, filter, Option, Some, None}
use Rattle.std.specs.List.{fold}
use Rattle.rc_model.specs.Pick.{better, HeldRow, first_by, head_first, closed_first, is_open_valid, is_valid_of}
use Rattle.rc_types.specs.declared.ids.Pair.{Pair}
use Rattle.rc_digestpick.specs.declared.held.Held.{Held}

-- the row itself, with its backup
abbrev pub held_row : Held → HeldRow
held_row held = record { holder = held.holder; row = held.row.now }

-- the first of the best so far and of these rows
abbrev pub first_after : (HeldRow → HeldRow → Bool) → Option HeldRow → List HeldRow → Option HeldRow
first_after before None rows = first_by before rows
first_after before (Some best) rows = Some (fold (better before) best rows)

-- the head row of the best so far and of these rows; not the first open segment of a log, which has this name in the
-- rules that a master follows up with
abbrev pub first_open : Pair → Option HeldRow → List HeldRow → Option HeldRow
first_open min best rows = first_after head_first best (filter (is_open_valid min) rows)

-- the row that is taken of a segment, of the best so far and of these rows
abbrev pub first_of : Pair → ℕ → Option HeldRow → List HeldRow → Option HeldRow
first_of min seg best rows = first_after closed_first best (filter (is_valid_of min seg) rows)
