use Rattle.rc_clients.specs.Evidence.{AreBars, AreTops}
use Rattle.rc_clients.proofs.bars.bars_in.Given as goal

-- the tops and the bars so far
abbrev pub invariant-loop-moment : goal.invariant-loop-moment
invariant-loop-moment l = AreTops l.history l.moment l.tops × AreBars l.history l.moment l.bars.items
