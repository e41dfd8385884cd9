use Rattle.std.proofs.Common.{◌≡◌, take, Ok}
use Rattle.rc_model.specs.Pick.{taken_rows}
use Rattle.rc_digestpick.specs.Held.{held_row}
use Rattle.rc_digestpick.proofs.taken.taken_rows.Given as goal

-- a row of each segment so far
abbrev pub invariant-loop-seg : goal.invariant-loop-seg
invariant-loop-seg l = taken_rows l.fn.min l.replies (held_row l.head) (take l.seg-index l.seg-items) ≡ Ok l.rows.items
