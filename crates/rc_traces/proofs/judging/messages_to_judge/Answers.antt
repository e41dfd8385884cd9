use Rattle.std.proofs.Common.{sym, ap, ◌∙◌, arith}
use Rattle.rc_model.specs.Recovered.{accepted}
use Rattle.rc_traces.specs.Trace.{reading}
use Rattle.rc_traces.proofs.Unentered.{judged_bare}
use Rattle.rc_traces.proofs.judging.messages_to_judge.Goals as goal

pub returns-then-not-has_recovery-clause-finding : goal.returns-then-not-has_recovery-clause-finding
returns-then-not-has_recovery-clause-finding c =
    (judged_bare (reading c.args.bytes.now) c.in_ok-messages.messages.items c.in_ok-messages.ensures.ok
    (ap accepted (sym c.as_slice.ensures.value) ∙ c.has_recovery.ensures.none (grind arith))).finding

pub returns-then-not-has_recovery-clause-text : goal.returns-then-not-has_recovery-clause-text
returns-then-not-has_recovery-clause-text c =
    (judged_bare (reading c.args.bytes.now) c.in_ok-messages.messages.items c.in_ok-messages.ensures.ok
    (ap accepted (sym c.as_slice.ensures.value) ∙ c.has_recovery.ensures.none (grind arith))).text
