use Rattle.rc_audit.proofs.GrantLemmas.{grants_more}
use Rattle.rc_audit.proofs.grants.grants_in.Goals as goal

pub loop-message-preserved : goal.loop-message-preserved
loop-message-preserved c = grants_more _ _ _ _ _ c.loop-message-test.true c.message-item.is c.loop-message.invariant
    c.in_ok-note_message.ensures
