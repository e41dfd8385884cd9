use Rattle.rc_audit.proofs.BarLemmas.{levels_more}
use Rattle.rc_audit.proofs.bars.acked_highs.Goals as goal

pub loop-message-preserved : goal.loop-message-preserved
loop-message-preserved c = levels_more _ _ _ _ _ c.loop-message-test.true c.message-item.is c.loop-message.invariant
    c.in_ok-note_acked.ensures
