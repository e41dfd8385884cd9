use Rattle.rc_audit.specs.Recoveries.{accepted_of}
use Rattle.rc_audit.specs.Senders.{messages_in}
use Rattle.rc_audit.proofs.SenderLemmas.{superseded_told, missing_told}
use Rattle.rc_audit.proofs.missing.missing_among.Goals as goal

pub first_missing-requires-clause-superseded : goal.first_missing-requires-clause-superseded
first_missing-requires-clause-superseded c =
    superseded_told _ c.args.evidence.now.messages.now (messages_in c.args.sent.now) (accepted_of c.args.recovery.now)
    c.requires.sent c.in_ok-highs.ensures

pub returns : goal.returns
returns c =
    missing_told c.args.evidence.now.messages.now (messages_in c.args.sent.now) (accepted_of c.args.recovery.now)
    c.first_missing.result c.requires.sent c.first_missing.ensures
