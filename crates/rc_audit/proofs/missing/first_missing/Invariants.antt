use Rattle.std.proofs.Common.{◌≡◌, drop}
use Rattle.rc_model.specs.Model.{all_acknowledged, first_missing}
use Rattle.rc_audit.specs.Recoveries.{accepted_of}
use Rattle.rc_audit.specs.Senders.{messages_in}
use Rattle.rc_audit.proofs.missing.first_missing.Given as goal

-- nothing is missing so far
abbrev pub invariant-loop-message : goal.invariant-loop-message
invariant-loop-message l =
    first_missing l.evidence.messages.now (accepted_of l.recovery) (all_acknowledged (messages_in l.sent))
    ≡ first_missing l.evidence.messages.now (accepted_of l.recovery) (all_acknowledged (drop l.message-index (messages_in l.sent)))
