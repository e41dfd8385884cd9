use Rattle.std.proofs.Common.{Some, ap, ◌∙◌}
use Rattle.std.proofs.lemmas.Result.{IfOk-weaker}
use Rattle.rc_backup.specs.BackupView.{held_in}
use Rattle.rc_replica.specs.HeldAfter.{fetched}
use Rattle.rc_backup.proofs.TableLemmas.{found-held}
use Rattle.rc_backup.proofs.backup.Backup.data.Goals as goal

pub returns-in-Some : goal.returns-in-Some
returns-in-Some c =
    let r = c.args.request.now in
    let m = c.args.master in
    IfOk-weaker c.data.result _ _
    (λ answer said.
    said
    ∙ ap (λ held. fetched held r.attempt r.seg r.len r.part)
    (found-held m c.self.inside.held.entries (Some c.in-Some.held.now) c.in-Some.ensures.value ∙
    ap (λ holdings. held_in holdings.table m) c.self.view_is))
    c.data.ensures
