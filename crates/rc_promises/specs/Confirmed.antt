-- A confirmed read, what it does not miss, and how reads follow time, after every list of events of every setup.
use Rattle.std.specs.Prelude.{◌≡◌, ◌≢◌, ◌⊎◌, ℕ, ◌<◌, ◌≤◌, true, List, length, None}
use Rattle.rc_types.specs.declared.ids.ServerId.{ServerId}
use Rattle.rc_types.specs.declared.entries.Entry.{Entry}
use Rattle.rc_types.specs.declared.events.Setup.{Setup}
use Rattle.rc_types.specs.declared.events.Event.{Event}
use Rattle.rc_types.specs.declared.messages.Message.{Message}
use Rattle.rc_model.specs.Nodes.{factor_of}
use Rattle.rc_model.specs.Recovered.{Ack}
use Rattle.rc_model.specs.Owners.{Granted, IsGranted, covers, IsEarlier}
use Rattle.rc_model.specs.Headline.{HasMade, HasAcknowledged}
use Rattle.rc_step_laws.specs.WordClaims.{sent_after}
use Rattle.rc_promises.specs.Service.{WasGranted, HasAsked, IsOfKey, Answer, HasRead}

-- the master has sent something for the place
abbrev pub HasSentFor : List Message → ServerId → ℕ → ℕ → Type 0
HasSentFor sent m s o = (entry : Entry) × HasMade sent m s o entry

-- What the master had done when these messages had been sent is confirmed: it has acknowledged a write, of any key, for
-- whose place it had sent nothing by then.
pub record IsConfirmed (sent : List Message) (m : ServerId) (before : List Message) : Type 0 where
  pub ack : Ack
  pub acknowledged : HasAcknowledged sent m ack
  pub unsent : HasSentFor before m ack.seg ack.offset → ⊥

-- The read was made under a term that had been granted to its master by then, and no later term of the key had been
-- granted by then. So it misses nothing that anyone had acknowledged by then.
pub record MissesNothing (m : ServerId) (before : List Message) (answer : Answer) : Type 0 where
  pub term : ℕ
  pub owned : WasGranted before m term answer.table answer.key
  pub last : (grant : Granted) → IsGranted before grant → covers answer.table answer.key grant ≡ true →
      IsEarlier before answer.table answer.key term grant.term → ⊥
  pub all : (x : ServerId) (ack : Ack) → HasAcknowledged before x ack → IsOfKey answer.table answer.key ack →
      ack.version ≤ answer.version

-- All of this is said where segments have replicas at all.

abbrev pub ConfirmedReadsMissNothing : Type 0
ConfirmedReadsMissNothing =
    (setup : Setup) (events : List Event) (m : ServerId) (before : List Message) (answer : Answer) →
    factor_of setup m.index ≢ 0 → HasRead (sent_after setup events) m before answer →
    IsConfirmed (sent_after setup events) m before → MissesNothing m before answer

-- Reads follow time

-- a read of a key that was confirmed shows no smaller version than one that was answered before it, confirmed or not
abbrev pub ReadsFollowTime : Type 0
ReadsFollowTime =
    (setup : Setup) (events : List Event) (m x : ServerId) (before since : List Message) (first later : Answer) →
    factor_of setup m.index ≢ 0 → factor_of setup x.index ≢ 0 →
    HasRead (sent_after setup events) m before first → HasRead (sent_after setup events) x since later →
    IsConfirmed (sent_after setup events) x since → first.table ≡ later.table → first.key ≡ later.key →
    length before < length since → first.version ≤ later.version

-- a write of the key has a greater version than a read that was answered before anything was sent for its place, be it
-- confirmed or not
abbrev pub WritesFollowReads : Type 0
WritesFollowReads =
    (setup : Setup) (events : List Event) (m x : ServerId) (before : List Message) (answer : Answer) (later : Ack) →
    factor_of setup m.index ≢ 0 → factor_of setup x.index ≢ 0 → HasRead (sent_after setup events) m before answer →
    HasAcknowledged (sent_after setup events) x later → IsOfKey answer.table answer.key later →
    (HasSentFor before x later.seg later.offset → ⊥) → answer.version < later.version

-- What reads show, confirmed or not

-- of one version above 0 they show one value
abbrev pub ReadsShowOneValue : Type 0
ReadsShowOneValue =
    (setup : Setup) (events : List Event) (m x : ServerId) (before since : List Message) (one other : Answer) →
    factor_of setup m.index ≢ 0 → factor_of setup x.index ≢ 0 →
    HasRead (sent_after setup events) m before one → HasRead (sent_after setup events) x since other →
    one.table ≡ other.table → one.key ≡ other.key → one.version ≡ other.version → one.value ≡ other.value

-- and a client had asked a master for it; of version 0 they show nothing
abbrev pub WhatReadsShowWasAsked : Type 0
WhatReadsShowWasAsked =
    (setup : Setup) (events : List Event) (m : ServerId) (before : List Message) (answer : Answer) →
    factor_of setup m.index ≢ 0 → HasRead (sent_after setup events) m before answer →
    ((answer.version ≡ 0) × (answer.value ≡ None))
    ⊎ ((x : ServerId) × HasAsked before x answer.table answer.key answer.value)
