use Rattle.rc_coordinator.specs.Asked.{AreUpTo}
use Rattle.rc_coordinator.proofs.recoveries.all_numbers.Given as goal

abbrev pub invariant-loop-before : goal.invariant-loop-before
invariant-loop-before l = AreUpTo l.before l.numbers.items
