use Rattle.std.proofs.Common.{◌+◌, ◌∙◌, sym, drop}
use Rattle.rc_model.specs.Recovered.{accepted}
use Rattle.rc_audit.specs.Recoveries.{accepted_of}
use Rattle.rc_audit.proofs.CleanLemmas.{clean_more, plans_from, plan_kept, none_from}
use Rattle.rc_audit.proofs.missing.missing_write.Goals as goal

pub loop-message-preserved : goal.loop-message-preserved
loop-message-preserved c =
    let sent = c.args.evidence.now.messages.now in
    let none = sym c.in_ok-missing.ensures ∙ none_from c.in_ok-missing.missing (sym c.if-is_some.ensures) in
    record {
      clean = clean_more c.loop-message.clean c.insert.new.self sent c.key_of-key.result c.in-Some.recovery.master
          (record { rows = c.in-Some.recovery.rows }) c.in-Some.recovery.attempt c.key_of-key.ensures none
          c.loop-message.invariant.clean c.in_ok-insert.ensures.updates.0;
      so_far = plan_kept sent c.message-item.result.body (accepted_of c.in-Some.recovery) (accepted sent)
          (accepted (drop c.loop-message.message-index sent))
          (accepted (drop (c.loop-message.message-index + 1) sent))
          (plans_from sent c.loop-message.message-index c.message-item.result c.loop-message-test.true
          c.message-item.is) c.in-Some.ensures none c.loop-message.invariant.so_far;
    }
