use Rattle.std.proofs.Common.{◌≡◌, ℕ, None, List}
use Rattle.rc_wire.specs.SeatView.{SeatData}
use Rattle.rc_wire.specs.declared.steps.Step.{Step}
use Rattle.rc_wire.specs.Runs.{Progress, Grows}
use Rattle.rc_wire.proofs.turns.deliver_rest.Given as goal

-- all messages below a number are delivered
abbrev pub invariant-loop : goal.invariant-loop
invariant-loop g l = record {
  kept : (start : SeatData) (steps : List Step) (at : ℕ) → Progress g.N.Naming.wire.setup start steps at l.from l.fn.seat →
      Progress g.N.Naming.wire.setup start steps at l.below l.seat;
  idle : l.seat.pending ≡ None;
  grows : Grows l.fn.seat l.seat;
}
