use Rattle.std.proofs.Common.{◌≡◌, take}
use Rattle.rc_coordinator.proofs.making.ready_of.Given as goal

abbrev pub invariant-loop-id : goal.invariant-loop-id
invariant-loop-id l = l.ready ≡ take l.id-index l.ids
