use Rattle.std.proofs.Common.{◌≡◌, nat_eq, find, drop}
use Rattle.rc_coordinator.proofs.enlisting.of_host.Given as goal

-- the id is the first among those that are left
abbrev pub invariant-loop-id : goal.invariant-loop-id
invariant-loop-id l =
    find (λ id. nat_eq id.index l.index) (drop l.id-index l.ids) ≡ find (λ id. nat_eq id.index l.index) l.ids
