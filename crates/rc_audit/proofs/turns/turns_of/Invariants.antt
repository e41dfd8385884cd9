use Rattle.rc_audit.proofs.TurnLemmas.{TurnsAmong}
use Rattle.rc_audit.proofs.turns.turns_of.Given as goal

-- the turns of the keys so far
abbrev pub invariant-loop-key : goal.invariant-loop-key
invariant-loop-key l = TurnsAmong l.order l.highs l.key-iterator l.turns
