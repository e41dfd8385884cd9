use Rattle.std.proofs.Common.{◌≡◌, true}
use Rattle.rc_wire.specs.Runs.{none_fetched}
use Rattle.test_calls.proofs.runs.add_writes.Given as goal

abbrev pub invariant-loop : goal.invariant-loop
invariant-loop l = none_fetched l.steps.items ≡ true
