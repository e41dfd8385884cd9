use Rattle.rc_clients.specs.Pending.{AreChains}
use Rattle.rc_clients.proofs.chains.chains_in.Given as goal

-- those from this moment on
abbrev pub invariant-loop-moment : goal.invariant-loop-moment
invariant-loop-moment l = AreChains l.history l.moment l.heads l.nexts

abbrev pub decreases-loop-moment : goal.decreases-loop-moment
decreases-loop-moment l = l.moment
