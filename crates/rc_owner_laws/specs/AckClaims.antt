-- What is claimed of acknowledgements: when they are sent, how often, and of what, after every list of events.
use Rattle.std.specs.Prelude.{◌≡◌, ◌≢◌, ℕ, ◌≤◌, Bool, true, false, nat_eq, ◌&&◌, IsTrue, List, length, take, filter}
use Rattle.std.specs.Prelude.{Option, Some, slice_get}
use Rattle.rc_types.specs.declared.ids.ServerId.{ServerId}
use Rattle.rc_types.specs.declared.ids.Addr.TheVariants.{Server}
use Rattle.rc_types.specs.declared.entries.Entry.{Entry}
use Rattle.rc_types.specs.declared.events.Setup.{Setup}
use Rattle.rc_types.specs.declared.events.Event.{Event}
use Rattle.rc_types.specs.declared.messages.Message.{Message}
use Rattle.rc_types.specs.declared.messages.Body.{Body}
use Rattle.rc_types.specs.declared.messages.Body.TheVariants.{WriteOk, Write}
use Rattle.rc_model.specs.Ids.{is_server}
use Rattle.rc_model.specs.Messages.{to_outside}
use Rattle.rc_model.specs.Recovered.{Ack}
use Rattle.rc_model.specs.Log.{Log, LogPlace, places_of}
use Rattle.rc_model.specs.FollowUps.{write_oks}
use Rattle.rc_model.specs.Nodes.{factor_of}
use Rattle.rc_model.specs.World.{replay, master_of}
use Rattle.rc_model.specs.Durable.{is_stored_on_all}
use Rattle.rc_model.specs.Headline.{In, HasAcknowledged, IsOfAck}
use Rattle.rc_step_laws.specs.WordClaims.{sent_after, log_of, entry_in}

abbrev pub is_write_ok : Body → Bool
is_write_ok (WriteOk seg offset term table key version) = true
is_write_ok _ = false

-- the acknowledgements of a master among these messages, in order
abbrev pub is_ack_of : ServerId → Message → Bool
is_ack_of m message = is_server m message.from && is_write_ok message.body

abbrev pub acks_in : ServerId → List Message → List Message
acks_in m messages = filter (is_ack_of m) messages

-- the places that a master counts as durable, in order
abbrev pub counted_places : Log → List LogPlace
counted_places log = take log.durable (places_of log)

-- a master has acknowledged exactly the clients' writes among the places that it counts as durable, in their order,
-- each once
abbrev pub CountedIsAcknowledged : Type 0
CountedIsAcknowledged = (setup : Setup) (events : List Event) (m : ServerId) →
    acks_in m (sent_after setup events) ≡ write_oks m (counted_places (log_of setup events m))

-- where a segment has replicas at all, and the master isn't deposed: once all members have told a client's write, and
-- each earlier segment is shut, it is acknowledged, in that very step
abbrev pub StoredIsAcknowledged : Type 0
StoredIsAcknowledged = (setup : Setup) (events : List Event) (m : ServerId) (s o : ℕ) (entry : Entry) →
    factor_of setup m.index ≢ 0 → (master_of (replay setup events) m).deposed ≡ false →
    IsTrue (is_stored_on_all (log_of setup events m) s o) →
    slice_get ((log_of setup events m).segments s).entries o ≡ Some (entry, true) →
    In (to_outside m (WriteOk s o entry.term entry.table entry.key entry.version)) (sent_after setup events)

-- the message acknowledges the place
abbrev pub names_place : ℕ → ℕ → Body → Bool
names_place s o (WriteOk seg offset term table key version) = nat_eq seg s && nat_eq offset o
names_place s o _ = false

abbrev pub acks_place : ServerId → ℕ → ℕ → Message → Bool
acks_place m s o message = is_server m message.from && names_place s o message.body

-- a place is acknowledged once
abbrev pub AcknowledgedOnce : Type 0
AcknowledgedOnce = (setup : Setup) (events : List Event) (m : ServerId) (s o : ℕ) →
    length (filter (acks_place m s o) (sent_after setup events)) ≤ 1

-- the write was asked of the master
pub record WasToldToWrite (sent : List Message) (m : ServerId) (table key : ℕ) (value : Option (List ℕ)) : Type 0 where
  pub message : Message
  pub among : In message sent
  pub to : message.to ≡ Server m
  pub says : message.body ≡ Write table key value

-- what stands at an acknowledged place is what was acknowledged, and was asked, with its value
pub record IsAsked (sent : List Message) (m : ServerId) (log : Log) (ack : Ack) : Type 0 where
  pub entry : Entry
  pub stands : entry_in log ack.seg ack.offset ≡ Some entry
  pub of_ack : IsOfAck ack entry
  pub version : entry.version ≡ ack.version
  pub asked : WasToldToWrite sent m ack.table ack.key entry.value

abbrev pub AcknowledgedWasAsked : Type 0
AcknowledgedWasAsked = (setup : Setup) (events : List Event) (m : ServerId) (ack : Ack) →
    HasAcknowledged (sent_after setup events) m ack → IsAsked (sent_after setup events) m (log_of setup events m) ack
