use Rattle.rc_audit.proofs.SenderLemmas.{senders_more}
use Rattle.rc_audit.proofs.senders.senders_in.Goals as goal

pub loop-message-preserved : goal.loop-message-preserved
loop-message-preserved c = senders_more _ _ _ _ _ c.loop-message-test.true c.message-item.is c.loop-message.invariant
    c.in_ok-note_message.ensures
