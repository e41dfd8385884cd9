use Rattle.rc_clients.specs.Evidence.{AreFirsts}
use Rattle.rc_clients.proofs.differing.firsts_in.Given as goal

-- the first operations of each version so far
abbrev pub invariant-loop-moment : goal.invariant-loop-moment
invariant-loop-moment l = AreFirsts l.history l.moment l.firsts
