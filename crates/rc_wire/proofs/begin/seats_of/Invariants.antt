use Rattle.std.proofs.Common.{◌≡◌}
use Rattle.rc_wire.specs.Seats.{new_seats}
use Rattle.rc_wire.proofs.NewSeats.{places_from}
use Rattle.rc_wire.proofs.begin.seats_of.Given as goal

-- so many tokens have become seats; the others are left, in order
abbrev pub invariant-loop-number : goal.invariant-loop-number
invariant-loop-number g l = record {
  left : l.tokens.items ≡ places_from l.number l.nodes;
  made : l.seats.items ≡ new_seats l.number;
}
