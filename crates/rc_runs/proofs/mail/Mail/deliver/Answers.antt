use Rattle.std.proofs.Common.{◌<◌, length, ap, sym, subst}
use Rattle.rc_runs.specs.Letters.{Letters, Waits}
use Rattle.rc_runs.proofs.Deliveries.{fits_delivered}
use Rattle.rc_runs.proofs.mail.Mail.deliver.Goals as goal

pub returns : goal.returns
returns c events sent more waits =
    let marks = c.self.inside.marks in
    fits_delivered events sent more c.args.number marks.delivered.items _ marks.lines.items _
    (subst (λ (l : Letters). Waits events sent l) (sym c.self.view_is) waits)
    (subst (λ (l : Letters). c.args.number < length l.delivered) (sym c.self.view_is) c.requires)
    c.deliver.ensures.delivered (ap (λ v. v.items) c.deliver.ensures.lines)
