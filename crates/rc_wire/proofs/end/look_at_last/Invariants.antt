use Rattle.std.proofs.Common.{◌≡◌, All, vec_len}
use Rattle.rc_wire.specs.SeatCalls.{IsSeat, Covers}
use Rattle.rc_wire.proofs.end.look_at_last.Given as goal

-- those that are gone have looked
abbrev pub invariant-loop-seat : goal.invariant-loop-seat
invariant-loop-seat g l = record {
  same : l.journal ≡ l.fn.journal;
  covers : All (Covers g.N.Naming.wire.setup l.fn.journal) l.seats.items → All (Covers g.N.Naming.wire.setup l.fn.journal) l.fn.seats.items;
  whole : All (IsSeat g.N.Naming.wire.setup) l.seats.items → All (IsSeat g.N.Naming.wire.setup) l.fn.seats.items;
}

abbrev pub decreases-loop-seat : goal.decreases-loop-seat
decreases-loop-seat g l = vec_len l.seats
