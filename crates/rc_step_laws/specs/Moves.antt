-- What one node's move keeps, with the messages that it sends. The facts after it are of all that was sent before and
-- then.
use Rattle.std.specs.Prelude.{◌≡◌, ℕ, Bool, true, false, List, ◌++◌}
use Rattle.rc_types.specs.declared.ids.ServerId.{ServerId}
use Rattle.rc_types.specs.declared.ids.Addr.{Addr}
use Rattle.rc_types.specs.declared.ids.Addr.TheVariants.{Server, Coordinator as AtCoordinator}
use Rattle.rc_types.specs.declared.entries.Entry.{Entry}
use Rattle.rc_types.specs.declared.messages.Message.{Message}
use Rattle.rc_types.specs.declared.messages.Body.{Body}
use Rattle.rc_types.specs.declared.messages.Body.TheVariants as body
use Rattle.rc_model.specs.Messages.{between, to_coordinator, from_coordinator}
use Rattle.rc_model.specs.ServerList.{up_rows, has_crashed}
use Rattle.rc_model.specs.Pick.{is_below}
use Rattle.rc_model.specs.Backup.{Backup}
use Rattle.rc_model.specs.Log.{Log}
use Rattle.rc_model.specs.Master.{Master}
use Rattle.rc_model.specs.Attempts.{Attempt}
use Rattle.rc_model.specs.Coordinator.{Coordinator}
use Rattle.rc_model.specs.Nodes.{HostNode, server_of}
use Rattle.rc_model.specs.Headline.{In}
use Rattle.rc_step_laws.specs.Words.{OnDifferentHosts, IsNumbered, IsOf}
use Rattle.rc_step_laws.specs.Facts.{GoodMaster, IsPlace, IsAppend, IsClose, IsWriteOk, IsTold, StillStands, IsAnswer}
use Rattle.rc_step_laws.specs.Facts.{IsPlan, GoodHeld, GoodCoordinator, commit_ok_fine}
use Rattle.rc_step_laws.specs.Later.{LogLater, HeldLater, AttemptLater, IsNewPlace}

-- A master

-- the Places that a master has sent, and what it was told, against its log
pub record OwnFine (sent : List Message) (m : ServerId) (log : Log) : Type 0 where
  pub places : (x : ServerId) (s e : ℕ) (digest : List ℕ) (entries : List Entry) (closed : Bool) →
      In (between m x (body.Place s e digest entries closed)) sent → IsPlace sent m log x s e digest entries closed
  pub told : (x : ServerId) (s e len : ℕ) (closed : Bool) →
      In (between x m (body.Stored s e len closed)) sent → IsTold sent m log x s e len closed

-- what a master may say in a move from an old log
abbrev pub place_said : List Message → List Message → ServerId → Log → Log → Addr → ℕ → ℕ → List ℕ → List Entry →
    Bool → Type 0
place_said sent sent_now m old log (Server x) s e digest entries closed =
    IsPlace sent_now m log x s e digest entries closed × IsNewPlace sent m old x s e entries closed
place_said sent sent_now m old log _ s e digest entries closed = ⊥

abbrev pub body_said : List Message → List Message → ServerId → Log → Log → Addr → Body → Type 0
body_said sent sent_now m old log to (body.Place s e digest entries closed) =
    place_said sent sent_now m old log to s e digest entries closed
body_said sent sent_now m old log to (body.Append s offset entries) = IsAppend log s offset entries
body_said sent sent_now m old log to (body.Close s len) = IsClose log s len
body_said sent sent_now m old log to (body.WriteOk s o term table key version) =
    IsWriteOk sent_now m log s o term table key version
body_said sent sent_now m old log to (body.Write table key value) = ⊥
body_said sent sent_now m old log to (body.Read table key) = ⊥
body_said sent sent_now m old log to (body.Stored s e len closed) = ⊥
body_said sent sent_now m old log to (body.CommitOk s e) = ⊥
body_said sent sent_now m old log to (body.List version rows) = ⊥
body_said sent sent_now m old log to (body.Gather number master) = ⊥
body_said sent sent_now m old log to (body.Replicas number rows) = ⊥
body_said sent sent_now m old log to (body.Plan head number master rows parts) = ⊥
body_said sent sent_now m old log to (body.Data attempt s term entries) = ⊥
body_said sent sent_now m old log to (body.Own range term previous attempt) = ⊥
body_said sent sent_now m old log to (body.SplitOk table at) = ⊥
body_said sent sent_now m old log to _ = Unit {0}

pub record MasterSays (sent sent_now : List Message) (m : ServerId) (old log : Log) (message : Message) : Type 0 where
  pub from : message.from ≡ Server m
  pub says : body_said sent sent_now m old log message.to message.body

-- a move of a master, from its old view to the new one with these messages
pub record MasterMoved (sent : List Message) (m : ServerId) (old : Master) (after : Master × List Message) :
    Type 0 where
  pub good : GoodMaster (sent ++ after.1) m after.0
  pub fine : OwnFine (sent ++ after.1) m after.0.log
  pub later : LogLater (sent ++ after.1) m old.log after.0.log
  pub says : (message : Message) → In message after.1 →
      MasterSays sent (sent ++ after.1) m old.log after.0.log message

-- what a master may hear
abbrev pub MayHear : List Message → ServerId → Addr → Body → Type 0
MayHear sent m (Server x) (body.Stored s e len closed) = In (between x m (body.Stored s e len closed)) sent
MayHear sent m from (body.CommitOk s e) = In (from_coordinator m (body.CommitOk s e)) sent
MayHear sent m from (body.List version rows) = OnDifferentHosts (up_rows rows)
MayHear sent m from _ = Unit {0}

-- A backup

-- what a backup may say: what it stores of a master that it hasn't fenced, and answers about one that it now has
abbrev pub stored_said : List Message → (ServerId → Master) → HostNode → Backup → Addr → ℕ → ℕ → ℕ → Bool → Type 0
stored_said sent_now masters host backup (Server m) s e len closed =
    IsTold sent_now m (masters m).log (server_of host) s e len closed
    × (StillStands (backup.held m) s e len closed × ((host.backup.held m).fenced ≡ false))
stored_said sent_now masters host backup _ s e len closed = ⊥

abbrev pub backup_body_said : List Message → (ServerId → Master) → (ℕ → HostNode) → Coordinator → HostNode → Backup →
    Addr → Body → Type 0
backup_body_said sent_now masters hosts c host backup to (body.Stored s e len closed) =
    stored_said sent_now masters host backup to s e len closed
backup_body_said sent_now masters hosts c host backup to (body.Replicas number rows) =
    IsAnswer sent_now masters hosts c (server_of host) number rows
backup_body_said sent_now masters hosts c host backup to (body.Write table key value) = ⊥
backup_body_said sent_now masters hosts c host backup to (body.Read table key) = ⊥
backup_body_said sent_now masters hosts c host backup to (body.WriteOk s o term table key version) = ⊥
backup_body_said sent_now masters hosts c host backup to (body.ReadOk table key version value) = ⊥
backup_body_said sent_now masters hosts c host backup to (body.Refused reason) = ⊥
backup_body_said sent_now masters hosts c host backup to (body.Place s e digest entries closed) = ⊥
backup_body_said sent_now masters hosts c host backup to (body.Append s offset entries) = ⊥
backup_body_said sent_now masters hosts c host backup to (body.Close s len) = ⊥
backup_body_said sent_now masters hosts c host backup to (body.Commit s e) = ⊥
backup_body_said sent_now masters hosts c host backup to (body.CommitOk s e) = ⊥
backup_body_said sent_now masters hosts c host backup to body.Enlist = ⊥
backup_body_said sent_now masters hosts c host backup to body.Ready = ⊥
backup_body_said sent_now masters hosts c host backup to (body.List version rows) = ⊥
backup_body_said sent_now masters hosts c host backup to (body.Gather number master) = ⊥
backup_body_said sent_now masters hosts c host backup to (body.Plan head number master rows parts) = ⊥
backup_body_said sent_now masters hosts c host backup to (body.Fetch attempt master s len part) = ⊥
backup_body_said sent_now masters hosts c host backup to (body.Recovered attempt term) = ⊥
backup_body_said sent_now masters hosts c host backup to (body.Own range term previous attempt) = ⊥
backup_body_said sent_now masters hosts c host backup to (body.SplitOk table at) = ⊥
backup_body_said sent_now masters hosts c host backup to (body.Free s) = ⊥
backup_body_said sent_now masters hosts c host backup to _ = Unit {0}

-- a move of the backup of a host; `hosts` are all of them with this one changed
pub record BackupMoved (sent : List Message) (masters : ServerId → Master) (hosts : ℕ → HostNode) (c : Coordinator)
    (host : HostNode) (after : Backup × List Message) : Type 0 where
  pub own : after.0.own ≡ host.backup.own
  pub held : (m : ServerId) → GoodHeld (sent ++ after.1) m (masters m).log host.index host.generation (after.0.held m)
  pub later : (m : ServerId) → HeldLater (host.backup.held m) (after.0.held m)
  pub from : (message : Message) → In message after.1 → message.from ≡ Server (server_of host)
  pub says : (message : Message) → In message after.1 →
      backup_body_said (sent ++ after.1) masters hosts c host after.0 message.to message.body

-- The coordinator

pub record CoordinatorLater (old new : Coordinator) : Type 0 where
  pub attempts : (number : ℕ) (attempt : Attempt) → IsNumbered old.attempts number attempt →
      AttemptLater new.attempts number attempt
  pub crashed : (m : ServerId) → has_crashed old.servers m ≡ true → has_crashed new.servers m ≡ true
  pub least : (m : ServerId) → is_below (new.least m) (old.least m) ≡ false
  pub least_stays : (m : ServerId) → has_crashed old.servers m ≡ true → new.least m ≡ old.least m

abbrev pub coordinator_body_said : Coordinator → Addr → Body → Type 0
coordinator_body_said c to (body.CommitOk s e) = commit_ok_fine c AtCoordinator to s e
coordinator_body_said c to (body.Gather number master) = IsOf c.attempts number master
coordinator_body_said c to (body.Plan head number master rows parts) = IsPlan c number master head rows
coordinator_body_said c to (body.List version rows) = OnDifferentHosts (up_rows rows)
coordinator_body_said c to (body.Write table key value) = ⊥
coordinator_body_said c to (body.Read table key) = ⊥
coordinator_body_said c to (body.WriteOk s o term table key version) = ⊥
coordinator_body_said c to (body.ReadOk table key version value) = ⊥
coordinator_body_said c to (body.Place s e digest entries closed) = ⊥
coordinator_body_said c to (body.Append s offset entries) = ⊥
coordinator_body_said c to (body.Close s len) = ⊥
coordinator_body_said c to (body.Stored s e len closed) = ⊥
coordinator_body_said c to (body.Commit s e) = ⊥
coordinator_body_said c to body.Enlist = ⊥
coordinator_body_said c to body.Ready = ⊥
coordinator_body_said c to (body.Replicas number rows) = ⊥
coordinator_body_said c to (body.Fetch attempt master s len part) = ⊥
coordinator_body_said c to (body.Data attempt s term entries) = ⊥
coordinator_body_said c to (body.Recovered attempt term) = ⊥
coordinator_body_said c to (body.Free s) = ⊥
coordinator_body_said c to _ = Unit {0}

pub record CoordinatorMoved (sent : List Message) (old : Coordinator) (after : Coordinator × List Message) :
    Type 0 where
  pub good : GoodCoordinator (sent ++ after.1) after.0
  pub later : CoordinatorLater old after.0
  pub from : (message : Message) → In message after.1 → message.from ≡ AtCoordinator
  pub says : (message : Message) → In message after.1 → coordinator_body_said after.0 message.to message.body

-- what the coordinator may hear
abbrev pub CoordinatorMayHear : List Message → Addr → Body → Type 0
CoordinatorMayHear sent (Server y) (body.Replicas number rows) = In (to_coordinator y (body.Replicas number rows)) sent
CoordinatorMayHear sent from _ = Unit {0}
