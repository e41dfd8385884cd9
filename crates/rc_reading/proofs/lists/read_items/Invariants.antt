use Rattle.std.proofs.Common.{length, Some}
use Rattle.rc_reading.proofs.Loops.{AreFolded}
use Rattle.rc_reading.proofs.lists.read_items.Given as goal

-- what the items to come make of what there is
abbrev pub invariant-items : goal.invariant-items
invariant-items g l = AreFolded g.S.Items.takes (Some l.fn.start) l.so_far l.depth l.initial.reader l.reader

abbrev pub decreases-items : goal.decreases-items
decreases-items g l = length l.reader
