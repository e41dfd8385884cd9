use Rattle.std.proofs.Common.{◌-◌, length}
use Rattle.rc_ownership.proofs.RowOrder.{IsSearched}
use Rattle.rc_ownership.proofs.rows.awaited_place.Given as goal

abbrev pub invariant-loop-row : goal.invariant-loop-row
invariant-loop-row l = IsSearched l.seg l.from l.rows.items l.place

abbrev pub decreases-loop-row : goal.decreases-loop-row
decreases-loop-row l = length l.rows.items - l.place
