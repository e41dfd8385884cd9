-- What a client may rely on: four sentences, each said once, of the messages that were sent, or of a setup and of what
-- has happened. Then they are said of every world, after every list of events of every setup: so also after the list
-- that ends with the acknowledgement or the answer of which it is said. `ServiceApart` says them of nodes that run
-- apart, `OfProcesses` of processes.
use Rattle.std.specs.Prelude.{◌≡◌, ◌≢◌, ℕ, ◌<◌, ◌≤◌, true, List, ◌∷◌, ◌++◌, Option}
use Rattle.rc_types.specs.declared.ids.ServerId.{ServerId}
use Rattle.rc_types.specs.declared.ids.Addr.TheVariants.{Server, Outside}
use Rattle.rc_types.specs.declared.entries.Entry.{Entry}
use Rattle.rc_types.specs.declared.events.Setup.{Setup}
use Rattle.rc_types.specs.declared.events.Event.{Event}
use Rattle.rc_types.specs.declared.messages.Message.{Message}
use Rattle.rc_types.specs.declared.messages.Body.TheVariants.{Write, ReadOk}
use Rattle.rc_model.specs.Nodes.{factor_of}
use Rattle.rc_model.specs.Recovered.{Ack}
use Rattle.rc_model.specs.Owners.{Granted, IsGranted, covers, IsEarlier}
use Rattle.rc_model.specs.Durable.{IsDurable}
use Rattle.rc_model.specs.Headline.{In, HasAcknowledged, HasMade}
use Rattle.rc_step_laws.specs.WordClaims.{sent_after}

-- the point was granted to the master under the term
pub record WasGranted (sent : List Message) (m : ServerId) (term table key : ℕ) : Type 0 where
  pub grant : Granted
  pub granted : IsGranted sent grant
  pub owner_is : grant.owner ≡ Server m
  pub term_is : grant.term ≡ term
  pub holds : covers table key grant ≡ true

-- a client has asked the master for the write
abbrev pub HasAsked : List Message → ServerId → ℕ → ℕ → Option (List ℕ) → Type 0
HasAsked sent m table key value = In (record { from = Outside; to = Server m; body = Write table key value }) sent

-- the write is of this key
pub record IsOfKey (table key : ℕ) (ack : Ack) : Type 0 where
  pub table_is : ack.table ≡ table
  pub key_is : ack.key ≡ key

-- the master has acknowledged the write, and this is what it has sent for its place
pub record IsWritten (sent : List Message) (m : ServerId) (ack : Ack) (entry : Entry) : Type 0 where
  pub acknowledged : HasAcknowledged sent m ack
  pub made : HasMade sent m ack.seg ack.offset entry

-- One version, one write

-- Its term was granted to its master, and its version is above 0; whoever has acknowledged this version of the key is
-- this master, and it is this write; and a client asked this master for it, with the value that the master has sent for
-- its place.
pub record IsOneWrite (sent : List Message) (m : ServerId) (ack : Ack) : Type 0 where
  pub owned : WasGranted sent m ack.term ack.table ack.key
  pub above : 0 < ack.version
  pub only : (x : ServerId) (other : Ack) → HasAcknowledged sent x other → IsOfKey ack.table ack.key other →
      other.version ≡ ack.version → (x ≡ m) × (other ≡ ack)
  pub value : Option (List ℕ)
  pub asked : HasAsked sent m ack.table ack.key value
  pub one_value : (entry : Entry) → IsWritten sent m ack entry → entry.value ≡ value

-- so is each of which an acknowledgement is among those that are seen
abbrev pub EachIsOneWrite : List Message → List Message → Type 0
EachIsOneWrite seen sent = (m : ServerId) (ack : Ack) → HasAcknowledged seen m ack → IsOneWrite sent m ack

-- and where segments have replicas at all, each was sent
abbrev pub EachWasSent : Setup → List Message → List Message → Type 0
EachWasSent setup seen sent = (m : ServerId) (ack : Ack) → factor_of setup m.index ≢ 0 → HasAcknowledged seen m ack →
    (entry : Entry) × IsWritten sent m ack entry

-- Writes follow time

-- Where one write of a key was acknowledged early, each write of it that was asked only afterwards has a greater
-- version, whoever acknowledges it. Asked only afterwards: no Write with its value had been sent to its master early.
abbrev pub FollowsTime : List Message → (ServerId → ℕ → ℕ → Option (List ℕ) → Type 0) → List Message → Type 0
FollowsTime early Asked sent = (m x : ServerId) (first later : Ack) (entry : Entry) →
    HasAcknowledged early m first → IsWritten sent x later entry → IsOfKey first.table first.key later →
    (Asked x later.table later.key entry.value → ⊥) → first.version < later.version

-- A read misses only what was acknowledged under a later term

-- what a read was answered
pub record Answer : Type 0 where
  pub table : ℕ
  pub key : ℕ
  pub version : ℕ
  pub value : Option (List ℕ)

-- a master has answered a read so, when the messages before had been sent
pub record HasRead (sent : List Message) (m : ServerId) (before : List Message) (answer : Answer) : Type 0 where
  pub message : Message
  pub after : List Message
  pub whole : sent ≡ before ++ message ∷ after
  pub from : message.from ≡ Server m
  pub says : message.body ≡ ReadOk answer.table answer.key answer.version answer.value

-- the entry of what was answered, under the term
abbrev pub answered : ℕ → Answer → Entry
answered term answer =
    record { term = term; table = answer.table; key = answer.key; version = answer.version; value = answer.value }

-- it stands at a durable place of the master, which has sent it
pub record IsShown (setup : Setup) (events : List Event) (m : ServerId) (term : ℕ) (answer : Answer) : Type 0 where
  pub seg : ℕ
  pub offset : ℕ
  pub durable : IsDurable setup events m seg offset
  pub made : HasMade (sent_after setup events) m seg offset (answered term answer)

-- A read is made under a term that had been granted to its master by then. It misses no write of the key that was
-- acknowledged under an earlier term, then or since, and none that this master had acknowledged by then under this
-- term. Of all that anyone had acknowledged by then it misses only what was acknowledged under a later term, as a
-- master may that was replaced and does not know it. So it shows version 0 only where there is nothing that it must
-- not miss. A version above 0 stands with its value at a durable place, where segments have replicas; where a write of
-- its version was acknowledged, its value is that write's.
pub record MissesOnlyLater (setup : Setup) (events : List Event) (m : ServerId) (before : List Message)
    (answer : Answer) : Type 0 where
  pub term : ℕ
  pub owned : WasGranted before m term answer.table answer.key
  pub earlier : (x : ServerId) (ack : Ack) → HasAcknowledged (sent_after setup events) x ack →
      IsOfKey answer.table answer.key ack → IsEarlier (sent_after setup events) answer.table answer.key ack.term term →
      ack.version ≤ answer.version
  pub own : (ack : Ack) → HasAcknowledged before m ack → IsOfKey answer.table answer.key ack → ack.term ≡ term →
      ack.version ≤ answer.version
  pub by_then : (x : ServerId) (ack : Ack) → HasAcknowledged before x ack → IsOfKey answer.table answer.key ack →
      (IsEarlier before answer.table answer.key term ack.term → ⊥) → ack.version ≤ answer.version
  pub shown : answer.version ≢ 0 → factor_of setup m.index ≢ 0 → IsShown setup events m term answer
  pub written : (x : ServerId) (ack : Ack) (entry : Entry) → IsWritten (sent_after setup events) x ack entry →
      IsOfKey answer.table answer.key ack → ack.version ≡ answer.version → entry.value ≡ answer.value

abbrev pub ReadsMissOnlyLater : Setup → List Event → List Message → Type 0
ReadsMissOnlyLater setup events sent = (m : ServerId) (before : List Message) (answer : Answer) →
    HasRead sent m before answer → MissesOnlyLater setup events m before answer

-- Of every world

abbrev pub OneVersionIsOneWrite : Type 0
OneVersionIsOneWrite = (setup : Setup) (events : List Event) →
    EachIsOneWrite (sent_after setup events) (sent_after setup events)

abbrev pub AcknowledgedIsWritten : Type 0
AcknowledgedIsWritten = (setup : Setup) (events : List Event) →
    EachWasSent setup (sent_after setup events) (sent_after setup events)

-- early: within the first events
abbrev pub WritesFollowTime : Type 0
WritesFollowTime = (setup : Setup) (events more : List Event) →
    FollowsTime (sent_after setup events) (HasAsked (sent_after setup events)) (sent_after setup (events ++ more))

abbrev pub ReadsSeeAcknowledgedWrites : Type 0
ReadsSeeAcknowledgedWrites = (setup : Setup) (events : List Event) →
    ReadsMissOnlyLater setup events (sent_after setup events)
