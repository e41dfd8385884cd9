use Rattle.std.proofs.Common.{◌≡◌, ◌++◌}
use Rattle.rc_coordinator.proofs.copying.copied_entries.Given as goal

-- what was copied so far
abbrev pub invariant-loop-id : goal.invariant-loop-id
invariant-loop-id g l = l.copy.entries ++ l.id-iterator ≡ l.map.entries
