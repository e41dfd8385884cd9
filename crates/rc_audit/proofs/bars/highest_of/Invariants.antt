use Rattle.rc_audit.proofs.BarLemmas.{HighestSoFar}
use Rattle.rc_audit.proofs.bars.highest_of.Given as goal

-- the highest of the terms so far
abbrev pub invariant-loop-term : goal.invariant-loop-term
invariant-loop-term l = HighestSoFar l.highs l.table l.key l.before l.term-iterator l.highest
