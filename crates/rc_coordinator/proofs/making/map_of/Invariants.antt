use Rattle.std.proofs.Common.{◌≡◌, take}
use Rattle.rc_coordinator.proofs.making.map_of.Given as goal

abbrev pub invariant-loop-id : goal.invariant-loop-id
invariant-loop-id g l = l.map.entries ≡ take l.id-index l.entries
