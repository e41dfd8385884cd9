use Rattle.std.proofs.Common.{◌≡◌, [], drop}
use Rattle.rc_runbook.specs.Runbook.{crashed_owners}
use Rattle.rc_runbook.proofs.attempts.crashed_owners.Given as goal

-- the owners so far, and then those of the other tablets
abbrev pub invariant-loop-tablet : goal.invariant-loop-tablet
invariant-loop-tablet l = crashed_owners l.owners.items (drop l.tablet-index l.tablets) ≡ crashed_owners [] l.tablets
