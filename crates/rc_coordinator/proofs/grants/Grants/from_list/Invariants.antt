use Rattle.std.proofs.Common.{◌≡◌, take}
use Rattle.rc_coordinator.proofs.grants.Grants.from_list.Given as goal

abbrev pub invariant-loop-grant : goal.invariant-loop-grant
invariant-loop-grant l = l.grants.grants ≡ take l.grant-index l.list
