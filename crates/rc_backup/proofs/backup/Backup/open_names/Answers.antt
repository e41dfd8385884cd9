use Rattle.std.proofs.Common.{◌++◌, ap, ◌∙◌}
use Rattle.rc_model.specs.Backup.{open_names}
use Rattle.rc_backup.specs.BackupView.{backup_of}
use Rattle.rc_backup.proofs.NameLemmas.{names_among, names_among-all}
use Rattle.rc_backup.proofs.backup.Backup.open_names.Goals as goal

pub loop-master-init : goal.loop-master-init
loop-master-init c =
    let b = c.self.inside in
    let gives = c.into_iter-master-iterator.ensures.into_iter_gives in
    ap (λ names. names ++ names_among c.into_iter-master-iterator.result) c.new-names.ensures.items ∙ ap names_among gives.0
    ∙ names_among-all b.id b.held.entries gives.6
    ∙ ap (λ holdings. open_names (backup_of holdings)) c.self.view_is
