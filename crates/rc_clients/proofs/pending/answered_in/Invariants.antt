use Rattle.rc_clients.specs.Evidence.{AreAnswered}
use Rattle.rc_clients.proofs.pending.answered_in.Given as goal

-- what was answered so far
abbrev pub invariant-loop-moment : goal.invariant-loop-moment
invariant-loop-moment l = AreAnswered l.history l.moment l.answered
