use Rattle.std.proofs.Common.{sym, subst}
use Rattle.rc_runs.specs.Letters.{Letters, Waits}
use Rattle.rc_runs.proofs.mail.Mail.note.Goals as goal

pub returns-clause-kept : goal.returns-clause-kept
returns-clause-kept c events waits =
    c.note.ensures.kept events (subst (λ (l : Letters). Waits events c.args.sent.now l) (sym c.self.view_is) waits)
