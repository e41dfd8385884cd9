use Rattle.std.proofs.Common.{◌≡◌}
use Rattle.rc_wire.specs.Views.{at_desk}
use Rattle.rc_wire.specs.Passes.{view, IsPassOf}
use Rattle.rc_wire.specs.JournalCalls.{new_places, seated}
use Rattle.rc_wire.proofs.journal.deal.Given as goal

-- so many nodes have a seat
abbrev pub invariant-loop : goal.invariant-loop
invariant-loop g l = record {
  token : IsPassOf l.ledger l.keeper;
  desk : view l.keeper ≡ at_desk (seated g.N.Naming.wire.setup l.counter);
  tokens : l.tokens.items ≡ new_places l.counter;
}
