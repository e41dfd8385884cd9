-- What is claimed of handovers, with durable places, after every list of events of every setup.
use Rattle.std.specs.Prelude.{◌≡◌, ◌≢◌, ℕ, true, List, Some}
use Rattle.rc_types.specs.declared.ids.ServerId.{ServerId}
use Rattle.rc_types.specs.declared.ids.Addr.TheVariants.{Server}
use Rattle.rc_types.specs.declared.entries.Entry.{Entry}
use Rattle.rc_types.specs.declared.events.Setup.{Setup}
use Rattle.rc_types.specs.declared.events.Event.{Event}
use Rattle.rc_model.specs.Nodes.{factor_of}
use Rattle.rc_model.specs.Recovered.{Ack}
use Rattle.rc_model.specs.Owners.{Granted, IsGranted, IsEarlier}
use Rattle.rc_model.specs.Durable.{IsDurable}
use Rattle.rc_model.specs.Headline.{HasMade, HasAcknowledged}
use Rattle.rc_step_laws.specs.WordClaims.{sent_after, log_of, entry_in, IsRecorded}
use Rattle.rc_owner_laws.specs.Words.{IsKeptBy}

-- the owner has made, at a durable place, an entry of its own term, of the same key: with the same version and value,
-- or, where segments are freed, with a greater version
pub record HasKept (setup : Setup) (events : List Event) (owner : ServerId) (term : ℕ) (was : Entry) : Type 0 where
  pub seg : ℕ
  pub offset : ℕ
  pub durable : IsDurable setup events owner seg offset
  pub entry : Entry
  pub made : HasMade (sent_after setup events) owner seg offset entry
  pub term_is : entry.term ≡ term
  pub keeps : IsKeptBy (setup.free ≡ true) was entry

-- so has each later owner of the entry's point, where its segments have replicas at all
abbrev pub OwnersKeep : Setup → List Event → Entry → Type 0
OwnersKeep setup events was = (grant : Granted) (owner : ServerId) → IsGranted (sent_after setup events) grant →
    grant.owner ≡ Server owner → IsEarlier (sent_after setup events) was.table was.key was.term grant.term →
    factor_of setup owner.index ≢ 0 → HasKept setup events owner grant.term was

-- what a master has acknowledged, then or since, stands in its log at the acknowledged place; it is what the master
-- has sent for that place, where its segments have replicas at all; and each later owner keeps it
pub record IsHandedOn (setup : Setup) (events : List Event) (m : ServerId) (ack : Ack) : Type 0 where
  pub recorded : IsRecorded (log_of setup events m) ack
  pub made : factor_of setup m.index ≢ 0 → HasMade (sent_after setup events) m ack.seg ack.offset recorded.entry
  pub kept : OwnersKeep setup events recorded.entry

abbrev pub AcknowledgedIsHandedOn : Type 0
AcknowledgedIsHandedOn = (setup : Setup) (events : List Event) (m : ServerId) (ack : Ack) →
    HasAcknowledged (sent_after setup events) m ack → IsHandedOn setup events m ack

-- and what is durable
abbrev pub DurableIsHandedOn : Type 0
DurableIsHandedOn = (setup : Setup) (events : List Event) (m : ServerId) (s o : ℕ) → IsDurable setup events m s o →
    (entry : Entry) × (entry_in (log_of setup events m) s o ≡ Some entry) × OwnersKeep setup events entry
