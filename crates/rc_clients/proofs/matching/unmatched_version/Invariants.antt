use Rattle.rc_clients.specs.Matching.{AreMatched}
use Rattle.rc_clients.proofs.matching.unmatched_version.Given as goal

-- the versions so far have writes
abbrev pub invariant-loop-operation : goal.invariant-loop-operation
invariant-loop-operation l = AreMatched l.history l.firsts l.heads l.operation-iterator
