-- What only grows from a world to any later one.
use Rattle.std.specs.Prelude.{◌≡◌, ◌⊎◌, ℕ, ◌<◌, ◌≤◌, Bool, true, false, List, length, Option, Some}
use Rattle.rc_types.specs.declared.ids.ServerId.{ServerId}
use Rattle.rc_types.specs.declared.entries.Entry.{Entry}
use Rattle.rc_types.specs.declared.messages.Message.{Message}
use Rattle.rc_model.specs.Replica.{Replica}
use Rattle.rc_model.specs.Backup.{Held, replica_of, is_freed}
use Rattle.rc_model.specs.Log.{Log}
use Rattle.rc_model.specs.Master.{ids_of}
use Rattle.rc_model.specs.Attempts.{Attempt}
use Rattle.rc_model.specs.Nodes.{HostNode}
use Rattle.rc_model.specs.Headline.{In}
use Rattle.rc_step_laws.specs.Words.{Begins, log_in, HasToldClosed, IsMember, held_at, IsNumbered}
use Rattle.rc_step_laws.specs.Facts.{StillStands}

-- a master's log: by what has been sent now
pub record LogLater (sent : List Message) (m : ServerId) (old new : Log) : Type 0 where
  pub head : old.head ≤ new.head
  -- segments grow at their ends, and those below the head not at all
  pub grows : (s : ℕ) → Begins (old.segments s).entries (new.segments s).entries
  pub final : (s : ℕ) → s < old.head → (new.segments s).entries ≡ (old.segments s).entries
  pub digest : (s : ℕ) → 0 < s → s ≤ old.head → (new.segments s).digest ≡ (old.segments s).digest
  pub epoch : (s : ℕ) → s ≤ old.head → (old.segments s).config.epoch ≤ (new.segments s).config.epoch
  -- shut is for good
  pub shut : (s : ℕ) → (old.segments s).shut ≡ true →
      ((new.segments s).shut ≡ true) × ((new.segments s).config.epoch ≡ (old.segments s).config.epoch)
  -- within an epoch the members of an open segment stay, and have all told closed once it is shut
  pub joined : (s : ℕ) (x : ServerId) → s ≤ old.head → (new.segments s).shut ≡ false →
      (new.segments s).config.epoch ≡ (old.segments s).config.epoch →
      In x (ids_of (old.segments s).config.members) → In x (ids_of (new.segments s).config.members)
  pub shuts : (s : ℕ) (x : ServerId) → s ≤ old.head → (old.segments s).shut ≡ false → (new.segments s).shut ≡ true →
      (new.segments s).config.epoch ≡ (old.segments s).config.epoch →
      In x (ids_of (old.segments s).config.members) → HasToldClosed sent x m s (new.segments s).config.epoch

-- a replica only rises, unless its segment is freed; a fence and a freed mark stay
pub record HeldLater (old new : Held) : Type 0 where
  pub replicas : (s : ℕ) (replica : Replica) → replica_of s old.replicas ≡ Some replica →
      StillStands new s replica.epoch (length replica.entries) replica.closed ⊎ (is_freed s new ≡ true)
  pub freed : (s : ℕ) → is_freed s old ≡ true → is_freed s new ≡ true
  pub fenced : old.fenced ≡ true → new.fenced ≡ true

-- a host's generation rises, and as long as it does not its backup keeps what it has
pub record HostLater (old new : HostNode) : Type 0 where
  pub generation : old.generation ≤ new.generation
  pub held : old.generation ≡ new.generation → (m : ServerId) → HeldLater (old.backup.held m) (new.backup.held m)

-- an attempt keeps its number and its master, and its decision once it has one
pub record AttemptLater (attempts : List Attempt) (number : ℕ) (old : Attempt) : Type 0 where
  pub now : Attempt
  pub numbered : IsNumbered attempts number now
  pub master : now.master ≡ old.master
  pub decided : old.decided ≡ now.decided ⊎ (old.decided ≡ Option.None)

-- a Place that was not there has at least what the log had, and under an epoch that was there already its addressee
-- was a member
pub record IsNewPlace (sent : List Message) (m : ServerId) (old : Log) (x : ServerId) (s e : ℕ) (entries : List Entry)
    (closed : Bool) : Type 0 where
  pub long : length (log_in old s) ≤ length entries
  pub known : closed ≡ false → s ≤ old.head → e ≤ (old.segments s).config.epoch → IsMember sent m s e x

-- a Stored that was not there is by the host's last server or a later one, and not by one that had fenced the master
pub record IsNewStored (hosts : ℕ → HostNode) (x m : ServerId) : Type 0 where
  pub since : (hosts x.index).generation ≤ x.generation
  pub unfenced : x.generation ≡ (hosts x.index).generation → (held_at hosts x.index m).fenced ≡ false
