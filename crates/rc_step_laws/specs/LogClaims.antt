-- What is claimed of logs, their replicas and their fences, after every list of events of every setup.
use Rattle.std.specs.Prelude.{◌≡◌, ℕ, ◌<◌, Bool, true, List, ◌++◌, length, Some, slice_get}
use Rattle.rc_types.specs.declared.ids.ServerId.{ServerId}
use Rattle.rc_types.specs.declared.entries.Entry.{Entry}
use Rattle.rc_types.specs.declared.rows.Row.{Row}
use Rattle.rc_types.specs.declared.events.Setup.{Setup}
use Rattle.rc_types.specs.declared.events.Event.{Event}
use Rattle.rc_types.specs.declared.messages.Message.{Message}
use Rattle.rc_types.specs.declared.messages.Body.TheVariants.{Stored, Gather, Replicas}
use Rattle.rc_model.specs.Messages.{between, to_coordinator}
use Rattle.rc_model.specs.Recovered.{Accepted}
use Rattle.rc_model.specs.Replica.{Replica}
use Rattle.rc_model.specs.Backup.{Held, replica_of}
use Rattle.rc_model.specs.Log.{Log}
use Rattle.rc_model.specs.World.{replay}
use Rattle.rc_model.specs.Headline.{In, HasMade, WasAccepted, IsHeld}
use Rattle.rc_step_laws.specs.Words.{Begins, log_in, held_at}
use Rattle.rc_step_laws.specs.WordClaims.{sent_after, log_of, entry_in, IsSafeAfter}

-- what the backup of a host keeps of a master after these events
abbrev pub held_after : Setup → List Event → ℕ → ServerId → Held
held_after setup events i m = held_at (replay setup events).hosts i m

-- Logs

-- a master sends one entry for a place
abbrev pub OneEntryAtAPlace : Type 0
OneEntryAtAPlace = (setup : Setup) (events : List Event) (m : ServerId) (s o : ℕ) (one other : Entry) →
    HasMade (sent_after setup events) m s o one → HasMade (sent_after setup events) m s o other → one ≡ other

-- a segment grows at its end
abbrev pub LogsGrow : Type 0
LogsGrow = (setup : Setup) (events more : List Event) (m : ServerId) (s : ℕ) →
    Begins (log_in (log_of setup events m) s) (log_in (log_of setup (events ++ more) m) s)

-- a shut one stays as it is, and shut
pub record IsFinal (old new : Log) (s : ℕ) : Type 0 where
  pub shut : (new.segments s).shut ≡ true
  pub same : log_in new s ≡ log_in old s

abbrev pub ShutIsFinal : Type 0
ShutIsFinal = (setup : Setup) (events more : List Event) (m : ServerId) (s : ℕ) →
    ((log_of setup events m).segments s).shut ≡ true →
    IsFinal (log_of setup events m) (log_of setup (events ++ more) m) s

-- and all its places are safe
abbrev pub ShutIsSafe : Type 0
ShutIsSafe = (setup : Setup) (events : List Event) (m : ServerId) (s o : ℕ) →
    ((log_of setup events m).segments s).shut ≡ true → o < length (log_in (log_of setup events m) s) →
    IsSafeAfter setup events m s o

-- Copies

-- a replica is a beginning of its segment, and its entries were sent by the master; a closed one is all of the segment,
-- and has all that the master has ever sent for a place of it
pub record IsBeginning (sent : List Message) (m : ServerId) (log : Log) (s : ℕ) (replica : Replica) : Type 0 where
  pub begins : Begins replica.entries (log_in log s)
  pub whole : replica.closed ≡ true → replica.entries ≡ log_in log s
  pub made : (o : ℕ) → o < length replica.entries → (entry : Entry) × (entry_in log s o ≡ Some entry) ×
      HasMade sent m s o entry
  pub all_made : replica.closed ≡ true → (o : ℕ) (entry : Entry) → HasMade sent m s o entry →
      slice_get replica.entries o ≡ Some entry

abbrev pub ReplicasAreBeginnings : Type 0
ReplicasAreBeginnings = (setup : Setup) (events : List Event) (i : ℕ) (m : ServerId) (s : ℕ) (replica : Replica) →
    replica_of s (held_after setup events i m).replicas ≡ Some replica →
    IsBeginning (sent_after setup events) m (log_of setup events m) s replica

-- what an accepted recovery holds of a segment stands in the log, and the master has sent it
abbrev pub RecoveredIsMade : Type 0
RecoveredIsMade = (setup : Setup) (events : List Event) (plan : Accepted) (s o : ℕ) →
    WasAccepted (sent_after setup events) plan → IsHeld plan.rows s o →
    (entry : Entry) × (entry_in (log_of setup events plan.master) s o ≡ Some entry) ×
    HasMade (sent_after setup events) plan.master s o entry

-- Fences

-- the coordinator has asked for what is kept of this master, under this number
pub record WasGathered (sent : List Message) (number : ℕ) (m : ServerId) : Type 0 where
  pub message : Message
  pub among : In message sent
  pub says : message.body ≡ Gather number m

-- who has answered tells that master no more
abbrev pub FencesHold : Type 0
FencesHold = (setup : Setup) (events more : List Event) (y m : ServerId) (number : ℕ) (rows : List Row) →
    WasGathered (sent_after setup events) number m →
    In (to_coordinator y (Replicas number rows)) (sent_after setup events) →
    (s e len : ℕ) (closed : Bool) → In (between y m (Stored s e len closed)) (sent_after setup (events ++ more)) →
    In (between y m (Stored s e len closed)) (sent_after setup events)

-- and is fenced for that master, as long as it is its host's last server
abbrev pub WhoAnsweredIsFenced : Type 0
WhoAnsweredIsFenced = (setup : Setup) (events : List Event) (y m : ServerId) (number : ℕ) (rows : List Row) →
    WasGathered (sent_after setup events) number m →
    In (to_coordinator y (Replicas number rows)) (sent_after setup events) →
    y.generation ≡ ((replay setup events).hosts y.index).generation → (held_after setup events y.index m).fenced ≡ true

-- and what it keeps of that master stays as it is until its host starts anew
abbrev pub AnsweredReplicasStay : Type 0
AnsweredReplicasStay = (setup : Setup) (events more : List Event) (y m : ServerId) (number : ℕ) (rows : List Row) →
    WasGathered (sent_after setup events) number m →
    In (to_coordinator y (Replicas number rows)) (sent_after setup events) →
    y.generation ≡ ((replay setup (events ++ more)).hosts y.index).generation →
    (held_after setup (events ++ more) y.index m).replicas ≡ (held_after setup events y.index m).replicas
