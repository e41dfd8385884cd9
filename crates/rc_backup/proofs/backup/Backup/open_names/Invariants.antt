use Rattle.std.proofs.Common.{◌≡◌, ◌++◌}
use Rattle.rc_model.specs.Backup.{open_names}
use Rattle.rc_backup.specs.BackupView.{backup_of}
use Rattle.rc_backup.proofs.NameLemmas.{names_among}
use Rattle.rc_backup.proofs.backup.Backup.open_names.Given as goal

-- the names so far, and then those of the masters that are left
abbrev pub invariant-loop-master : goal.invariant-loop-master
invariant-loop-master l = l.names.items ++ names_among l.master-iterator ≡ open_names (backup_of l.self)
