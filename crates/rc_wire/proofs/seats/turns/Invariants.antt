use Rattle.std.proofs.Common.{◌≤◌, length}
use Rattle.rc_wire.specs.Runs.{Progress, Grows}
use Rattle.rc_wire.proofs.seats.turns.Given as goal

-- what the seat has come to since it began
abbrev pub invariant-loop : goal.invariant-loop
invariant-loop g l = record {
  within : l.at ≤ length l.steps;
  kept : Progress g.N.Naming.wire.setup l.fn.seat l.steps l.at l.from l.seat;
  grows : Grows l.fn.seat l.seat;
}
