use Rattle.rc_clients.specs.Pending.{ArePending}
use Rattle.rc_clients.proofs.pending.pending_in.Given as goal

-- the writes so far
abbrev pub invariant-loop-moment : goal.invariant-loop-moment
invariant-loop-moment l = ArePending l.history l.moment l.pending
