use Rattle.rc_audit.proofs.SupersededLemmas.{lent_noted}
use Rattle.rc_audit.proofs.superseded.recovered_highs.Goals as goal

pub loop-message-preserved : goal.loop-message-preserved
loop-message-preserved c =
    lent_noted c.args.sent.now.messages.items c.deref-message-items.result.now (λ message. message.now)
    c.loop-message.highs c.note_message.new.highs c.args.recovery.now.rows.now
    c.loop-message.message-index c.message-item.result c.deref-message-items.ensures.value c.loop-message-test.true
    c.message-item.is c.loop-message.invariant c.in_ok-note_message.ensures
