use Rattle.std.proofs.Common.{◌≡◌, ℕ, None}
use Rattle.rc_wire.specs.SeatView.{SeatData}
use Rattle.rc_wire.specs.Runs.{Progress, Grows}
use Rattle.rc_wire.proofs.turns.do_until.Given as goal

-- the steps before this one are done
abbrev pub invariant-loop-next : goal.invariant-loop-next
invariant-loop-next g l = record {
  kept : (start : SeatData) (from : ℕ) → Progress g.N.Naming.wire.setup start l.steps l.at from l.fn.seat →
      Progress g.N.Naming.wire.setup start l.steps l.next from l.seat;
  idle : l.seat.pending ≡ None;
  grows : Grows l.fn.seat l.seat;
}
