use Rattle.std.proofs.Common.{length}
use Rattle.rc_audit.proofs.TurnLemmas.{TurnsSoFar}
use Rattle.rc_audit.proofs.turns.over_all.Given as goal

-- the turns so far
abbrev pub invariant-loop-turn : goal.invariant-loop-turn
invariant-loop-turn l = TurnsSoFar l.order l.highs l.turns.keys l.noted l.bars

abbrev pub decreases-loop-turn : goal.decreases-loop-turn
decreases-loop-turn l = length l.turns.keys
