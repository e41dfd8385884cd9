pub mod BackupView
