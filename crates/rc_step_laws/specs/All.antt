-- All words of this crate that proofs name, in one place.
pub use Rattle.rc_step_laws.specs.Facts.{AllAbove, Ascending, Fine, Good, GoodAttempt, GoodCoordinator, GoodHeld}
pub use Rattle.rc_step_laws.specs.Facts.{GoodHost, GoodMaster, GoodReplica, IsAnswer, IsAppend, IsClose, IsCopy}
pub use Rattle.rc_step_laws.specs.Facts.{IsDead, IsDigest, IsOutdated, IsPlace, IsPlan, IsSafe, IsStored, IsTold}
pub use Rattle.rc_step_laws.specs.Facts.{IsWriteOk, StillStands, body_fine, commit_ok_fine}
pub use Rattle.rc_step_laws.specs.Later.{AttemptLater, HeldLater, HostLater, IsNewPlace, IsNewStored, LogLater}
pub use Rattle.rc_step_laws.specs.MasterClaims.{MasterTakesKeeps, MasterTicksKeeps, NewMasterIsGood}
pub use Rattle.rc_step_laws.specs.MemberClaims.{MembersWerePlaced}
pub use Rattle.rc_step_laws.specs.Moves.{BackupMoved, CoordinatorLater, CoordinatorMayHear, CoordinatorMoved}
pub use Rattle.rc_step_laws.specs.Moves.{MasterMoved, MasterSays, MayHear, OwnFine, backup_body_said, body_said}
pub use Rattle.rc_step_laws.specs.Moves.{coordinator_body_said, stored_said}
pub use Rattle.rc_step_laws.specs.Words.{Begins, HasTold, HasToldClosed, IsCommitted, IsMember, IsNumbered, IsOf}
pub use Rattle.rc_step_laws.specs.Words.{IsOpened, IsOpenedAt, IsPlacedAt, NotOnHostOf, OnDifferentHosts, Stands}
pub use Rattle.rc_step_laws.specs.Words.{held_at, log_in}
