use Rattle.std.proofs.Common.{◌≡◌, take}
use Rattle.rc_model.specs.Recovered.{Ack}
use Rattle.rc_audit.specs.Senders.{messages_in}
use Rattle.rc_audit.specs.Superseded.{says_above, superseded_in}
use Rattle.rc_audit.proofs.superseded.recovered_highs.Given as goal

-- what the messages so far send
abbrev pub invariant-loop-message : goal.invariant-loop-message
invariant-loop-message l = (ack : Ack) →
    says_above l.highs ack ≡ superseded_in l.recovery.rows.now (take l.message-index (messages_in l.sent)) ack
