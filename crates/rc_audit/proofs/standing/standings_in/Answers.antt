use Rattle.std.proofs.Common.{sym, subst, take}
use Rattle.rc_model.specs.Recovered.{acknowledged}
use Rattle.rc_audit.specs.Standings.{StandsFor}
use Rattle.rc_audit.proofs.PlaceLemmas.{taken_more}
use Rattle.rc_audit.proofs.StandingLemmas.{stands_more, stands_same}
use Rattle.rc_audit.proofs.standing.standings_in.Goals as goal

pub loop-message-preserved-in_default : goal.loop-message-preserved-in_default
loop-message-preserved-in_default c =
    let next = taken_more c.args.evidence.now.messages.now c.loop-message.message-index c.message-item.result
    c.loop-message-test.true c.message-item.is in
    subst (λ x. StandsFor c.loop-message.standings c.args.evidence.now.messages.now (acknowledged x)) (sym next)
    (stands_same c.loop-message.standings c.args.evidence.now.messages.now
    (take c.loop-message.message-index c.args.evidence.now.messages.now) c.message-item.result
    c.loop-message.invariant
    c.in_default.ensures)

pub loop-message-preserved : goal.loop-message-preserved
loop-message-preserved c =
    let next = taken_more c.args.evidence.now.messages.now c.loop-message.message-index c.message-item.result
    c.loop-message-test.true c.message-item.is in
    subst (λ x. StandsFor c.note_write.new.standings c.args.evidence.now.messages.now (acknowledged x)) (sym next)
    (stands_more c.loop-message.standings c.note_write.new.standings c.args.evidence.now.messages.now
    (take c.loop-message.message-index c.args.evidence.now.messages.now) c.message-item.result c.in-Some.master
    c.in-Some.write c.all_agree-agrees.result
    c.loop-message.invariant c.in-Some.ensures c.all_agree-agrees.ensures c.in_ok-note_write.ensures.kept
    c.in_ok-note_write.ensures.below)
