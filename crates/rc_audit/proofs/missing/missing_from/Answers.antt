use Rattle.std.proofs.Common.{◌∙◌, sym, arith}
use Rattle.rc_model.specs.Recovered.{acknowledged}
use Rattle.rc_audit.specs.Recoveries.{accepted_of}
use Rattle.rc_audit.proofs.MissingLemmas.{none_missing}
use Rattle.rc_audit.proofs.SenderLemmas.{missing_nothing}
use Rattle.rc_audit.proofs.missing.missing_from.Goals as goal

pub returns-then-is_kept : goal.returns-then-is_kept
returns-then-is_kept c =
    let kept = c.is_kept.ensures.0 c.if-is_kept.true in
    sym (none_missing c.args.evidence.now.messages.now (accepted_of c.args.recovery.now)
    (acknowledged c.args.evidence.now.messages.now c.args.recovery.now.master)
    (sym (c.requires.standings.kept c.args.recovery.now.master) ∙ kept.0)
    (λ s. omega (arith, kept.1 s, c.requires.standings.below c.args.recovery.now.master s, c.in_ok-reaches.ensures.reach_of s)))

pub returns-in_default : goal.returns-in_default
returns-in_default c =
    missing_nothing c.args.senders.now c.args.evidence.now.messages.now (accepted_of c.args.recovery.now)
    c.requires.senders (sym c.in_default.ensures.value)
