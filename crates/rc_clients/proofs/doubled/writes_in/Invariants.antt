use Rattle.rc_clients.specs.Evidence.{AreWrites}
use Rattle.rc_clients.proofs.doubled.writes_in.Given as goal

-- the writes so far
abbrev pub invariant-loop-moment : goal.invariant-loop-moment
invariant-loop-moment l = AreWrites l.history l.moment l.writes
