use Rattle.std.proofs.Common.{◌+◌, sym, drop}
use Rattle.rc_model.specs.Recovered.{all_acknowledged}
use Rattle.rc_audit.specs.Writes.{ack_of}
use Rattle.rc_audit.specs.Recoveries.{accepted_of}
use Rattle.rc_audit.specs.Senders.{messages_in}
use Rattle.rc_audit.proofs.MissingLemmas.{acks_next, missing_passed, missing_kept, missing_found}
use Rattle.rc_audit.proofs.missing.first_missing.Goals as goal

pub loop-message-preserved-in_default : goal.loop-message-preserved-in_default
loop-message-preserved-in_default c =
    let next = acks_next c.args.sent.now.messages.items c.deref-message-items.result.now (λ message. message.now)
    c.loop-message.message-index c.message-item.result
    c.deref-message-items.ensures.value c.loop-message-test.true c.message-item.is in
    missing_passed c.args.evidence.now.messages.now (accepted_of c.args.recovery.now) c.message-item.result.now.body
    (all_acknowledged (messages_in c.args.sent.now)) (all_acknowledged (drop c.loop-message.message-index (messages_in c.args.sent.now)))
    (all_acknowledged (drop (c.loop-message.message-index + 1) (messages_in c.args.sent.now))) next c.in_default.ensures
    c.loop-message.invariant

pub returns-then-is_missing : goal.returns-then-is_missing
returns-then-is_missing c =
    let next = acks_next c.args.sent.now.messages.items c.deref-message-items.result.now (λ message. message.now)
    c.loop-message.message-index c.message-item.result
    c.deref-message-items.ensures.value c.loop-message-test.true c.message-item.is in
    sym (missing_found c.args.evidence.now.messages.now (accepted_of c.args.recovery.now) c.message-item.result.now.body
    (ack_of c.in-Some.write)
    (all_acknowledged (messages_in c.args.sent.now)) (all_acknowledged (drop c.loop-message.message-index (messages_in c.args.sent.now)))
    (all_acknowledged (drop (c.loop-message.message-index + 1) (messages_in c.args.sent.now))) next c.in-Some.ensures
    (sym c.if-is_missing.ensures) c.loop-message.invariant)

pub loop-message-preserved : goal.loop-message-preserved
loop-message-preserved c =
    let next = acks_next c.args.sent.now.messages.items c.deref-message-items.result.now (λ message. message.now)
    c.loop-message.message-index c.message-item.result
    c.deref-message-items.ensures.value c.loop-message-test.true c.message-item.is in
    missing_kept c.args.evidence.now.messages.now (accepted_of c.args.recovery.now) c.message-item.result.now.body (ack_of c.in-Some.write)
    (all_acknowledged (messages_in c.args.sent.now)) (all_acknowledged (drop c.loop-message.message-index (messages_in c.args.sent.now)))
    (all_acknowledged (drop (c.loop-message.message-index + 1) (messages_in c.args.sent.now))) next c.in-Some.ensures
    (sym c.if-is_missing.ensures) c.loop-message.invariant
