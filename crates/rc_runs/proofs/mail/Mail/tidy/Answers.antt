use Rattle.std.proofs.Common.{sym, subst}
use Rattle.rc_runs.specs.Letters.{Letters, Waits}
use Rattle.rc_runs.proofs.Waitings.{tidied_as}
use Rattle.rc_runs.proofs.mail.Mail.tidy.Goals as goal

pub returns : goal.returns
returns c events sent waits =
    let marks = c.self.inside.marks in
    tidied_as events sent marks.delivered.items _ marks.lines.items _
    (subst (λ (l : Letters). Waits events sent l) (sym c.self.view_is) waits)
    c.tidy.ensures.delivered c.tidy.ensures.lines
