use Rattle.std.proofs.Common.{◌≡◌, take}
use Rattle.std.specs.Option.{option_map}
use Rattle.rc_model.specs.Pick.{rows_of}
use Rattle.rc_digestpick.specs.Held.{held_row, first_open}
use Rattle.rc_digestpick.proofs.head.highest.Given as goal

-- the first so far
abbrev pub invariant-loop-row : goal.invariant-loop-row
invariant-loop-row l = option_map held_row l.best ≡ first_open l.min (option_map held_row l.fn.so_far)
    (rows_of l.holder (take l.row-index l.rows))
