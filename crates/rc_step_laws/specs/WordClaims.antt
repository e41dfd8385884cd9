-- What is claimed of durable places, after every list of events of every setup.
use Rattle.std.specs.Prelude.{◌≡◌, ℕ, IsTrue, List, ◌++◌, Option, Some, slice_get}
use Rattle.rc_types.specs.declared.ids.ServerId.{ServerId}
use Rattle.rc_types.specs.declared.entries.Entry.{Entry}
use Rattle.rc_types.specs.declared.events.Setup.{Setup}
use Rattle.rc_types.specs.declared.events.Event.{Event}
use Rattle.rc_types.specs.declared.messages.Message.{Message}
use Rattle.rc_model.specs.Recovered.{Ack, Accepted}
use Rattle.rc_model.specs.Log.{Log}
use Rattle.rc_model.specs.World.{replay, master_of}
use Rattle.rc_model.specs.Durable.{is_stored_on_all, IsDurable}
use Rattle.rc_model.specs.Headline.{HasAcknowledged, WasAccepted, IsThere, IsOfAck}
use Rattle.rc_step_laws.specs.Words.{log_in}
use Rattle.rc_step_laws.specs.Facts.{IsSafe}

-- all that was sent, and the log of a master, after these events
abbrev pub sent_after : Setup → List Event → List Message
sent_after setup events = (replay setup events).sent

abbrev pub log_of : Setup → List Event → ServerId → Log
log_of setup events m = (master_of (replay setup events) m).log

-- what stands at a place of the log
abbrev pub entry_in : Log → ℕ → ℕ → Option Entry
entry_in log s o = slice_get (log_in log s) o

-- the place is safe after these events
abbrev pub IsSafeAfter : Setup → List Event → ServerId → ℕ → ℕ → Type 0
IsSafeAfter setup events m s o = IsSafe (sent_after setup events) m (log_of setup events m) s o

-- a place and what stands there, said as an acknowledgement would say it
abbrev pub as_ack : ℕ → ℕ → Entry → Ack
as_ack s o entry =
    record { seg = s; offset = o; term = entry.term; table = entry.table; key = entry.key; version = entry.version }

-- Durable places

-- a place that is stored on all is safe
abbrev pub StoredIsSafe : Type 0
StoredIsSafe = (setup : Setup) (events : List Event) (m : ServerId) (s o : ℕ) →
    IsTrue (is_stored_on_all (log_of setup events m) s o) → IsSafeAfter setup events m s o

-- and stays safe, whatever happens, with what stands there
pub record IsStillSafe (setup : Setup) (events more : List Event) (m : ServerId) (s o : ℕ) : Type 0 where
  pub safe : IsSafeAfter setup (events ++ more) m s o
  pub entry : Entry
  pub stood : entry_in (log_of setup events m) s o ≡ Some entry
  pub stands : entry_in (log_of setup (events ++ more) m) s o ≡ Some entry

abbrev pub SafeStaysSafe : Type 0
SafeStaysSafe = (setup : Setup) (events more : List Event) (m : ServerId) (s o : ℕ) →
    IsSafeAfter setup events m s o → IsStillSafe setup events more m s o

-- a durable place has an entry, and each accepted recovery of its master has that entry, or a greater version of its
-- key under its term; and the master has sent no other entry for this place
pub record IsRecovered (setup : Setup) (events : List Event) (m : ServerId) (s o : ℕ) : Type 0 where
  pub entry : Entry
  pub stands : entry_in (log_of setup events m) s o ≡ Some entry
  pub there : (plan : Accepted) → WasAccepted (sent_after setup events) plan → plan.master ≡ m →
      IsThere (sent_after setup events) plan (as_ack s o entry)

abbrev pub DurableIsRecovered : Type 0
DurableIsRecovered = (setup : Setup) (events : List Event) (m : ServerId) (s o : ℕ) →
    IsDurable setup events m s o → IsRecovered setup events m s o

-- Acknowledgements

-- each names a safe place
abbrev pub AcknowledgedIsSafe : Type 0
AcknowledgedIsSafe = (setup : Setup) (events : List Event) (m : ServerId) (ack : Ack) →
    HasAcknowledged (sent_after setup events) m ack → IsSafeAfter setup events m ack.seg ack.offset

-- the acknowledged entry stands at its place
pub record IsRecorded (log : Log) (ack : Ack) : Type 0 where
  pub entry : Entry
  pub stands : entry_in log ack.seg ack.offset ≡ Some entry
  pub of_ack : IsOfAck ack entry
  pub version : entry.version ≡ ack.version

abbrev pub AcknowledgedIsRecorded : Type 0
AcknowledgedIsRecorded = (setup : Setup) (events : List Event) (m : ServerId) (ack : Ack) →
    HasAcknowledged (sent_after setup events) m ack → IsRecorded (log_of setup events m) ack
