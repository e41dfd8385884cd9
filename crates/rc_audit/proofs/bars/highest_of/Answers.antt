use Rattle.rc_audit.proofs.BarLemmas.{highest_begins}
use Rattle.rc_audit.proofs.bars.highest_of.Goals as goal

pub loop-term-init : goal.loop-term-init
loop-term-init c = highest_begins c.args.highs.now c.args.table c.args.key c.args.before.now
    c.into_iter-term-iterator.result c.into_iter-term-iterator.ensures.into_iter_gives.0
