use Rattle.rc_audit.proofs.OrderLemmas.{KeepsAmong}
use Rattle.rc_audit.proofs.orders.keeps.Given as goal

-- the terms so far stand after the previous ones of their grants
abbrev pub invariant-loop-term : goal.invariant-loop-term
invariant-loop-term l = KeepsAmong l.order l.grants.entries l.term-iterator
