use Rattle.std.proofs.Common.{sym}
use Rattle.rc_audit.proofs.EarlierLemmas.{follows_one}
use Rattle.rc_audit.proofs.earlier.follow_grant.Goals as goal

pub returns-in_ok-note_term : goal.returns-in_ok-note_term
returns-in_ok-note_term c =
    follows_one c.args.table c.args.key c.args.before.now c.note_term.new.before c.args.waiting.now.items
    c.note_term.new.waiting.items c.args.grant.now
    (sym c.if-holds.ensures) c.in_ok-note_term.ensures
