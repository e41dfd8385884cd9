use Rattle.std.proofs.Common.{◌≡◌, ℕ, take}
use Rattle.std.specs.Option.{option_map}
use Rattle.std.specs.BTreeMap.{get}
use Rattle.std.specs.Ordering.{nat_cmp}
use Rattle.rc_model.specs.Pick.{rows_of}
use Rattle.rc_digestpick.specs.Held.{held_row, first_of}
use Rattle.rc_digestpick.proofs.best.enter_rows.Given as goal

-- the first of each segment so far
abbrev pub invariant-loop-row : goal.invariant-loop-row
invariant-loop-row l = (seg : ℕ) →
    option_map held_row (get nat_cmp l.best seg) ≡ first_of l.min seg
    (option_map held_row (get nat_cmp l.initial.best seg)) (rows_of l.holder (take l.row-index l.rows))
