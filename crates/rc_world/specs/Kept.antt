-- What logs, replicas, recoveries and owners keep, said of one world: of its events, and of what was sent in it.
use Rattle.std.specs.Prelude.{◌≡◌, ◌⊎◌, ℕ, ◌<◌, true, Some}
use Rattle.rc_types.specs.declared.ids.ServerId.{ServerId}
use Rattle.rc_types.specs.declared.ids.Addr.TheVariants.{Server}
use Rattle.rc_types.specs.declared.entries.Entry.{Entry}
use Rattle.rc_model.specs.Replica.{Replica}
use Rattle.rc_model.specs.Backup.{replica_of}
use Rattle.rc_model.specs.Recovered.{Ack, Accepted}
use Rattle.rc_model.specs.Owners.{Granted, IsGranted, covers, IsEarlier}
use Rattle.rc_model.specs.Durable.{IsDurable}
use Rattle.rc_model.specs.Headline.{HasMade, HasAcknowledged, WasAccepted, IsHeld}
use Rattle.rc_step_laws.specs.WordClaims.{log_of, entry_in, IsRecorded}
use Rattle.rc_step_laws.specs.LogClaims.{held_after, IsBeginning}
use Rattle.rc_owner_laws.specs.VersionClaims.{DataIsCut, GrantsStart, VersionsRiseWithThePlace, NoVersionTwice}
use Rattle.rc_owner_laws.specs.DurableHandovers.{HasKept}
use Rattle.rc_world.specs.Happened.{Happened, replayed, sent_in}

-- Logs and their copies

pub record KeepsLogs (world : Happened) : Type 0 where
  -- a master sends one entry for a place
  pub one_entry : (m : ServerId) (s o : ℕ) (one other : Entry) → HasMade (sent_in world) m s o one →
      HasMade (sent_in world) m s o other → one ≡ other
  -- each replica, at any host, has a beginning of its segment, and a closed one all of it
  pub replicas : (host : ℕ) (m : ServerId) (s : ℕ) (replica : Replica) →
      replica_of s (held_after world.setup world.events host m).replicas ≡ Some replica →
      IsBeginning (sent_in world) m (log_of world.setup world.events m) s replica
  -- what an accepted recovery has of a segment stands in its master's log, and was sent by that master
  pub recovered : (plan : Accepted) (s o : ℕ) → WasAccepted (sent_in world) plan → IsHeld plan.rows s o →
      (entry : Entry) × (entry_in (log_of world.setup world.events plan.master) s o ≡ Some entry)
      × HasMade (sent_in world) plan.master s o entry

-- Owners

pub record KeepsOwners (world : Happened) : Type 0 where
  -- each Data is its plan's log cut to the part
  pub cut : DataIsCut (sent_in world)
  -- each grant of a recovery starts from its base, durably
  pub base : GrantsStart (sent_in world) (replayed world).masters
  -- of two different terms granted for a point one is the earlier one
  pub chain : (table key : ℕ) (one other : Granted) → IsGranted (sent_in world) one → covers table key one ≡ true →
      IsGranted (sent_in world) other → covers table key other ≡ true →
      (one.term ≡ other.term) ⊎ (IsEarlier (sent_in world) table key one.term other.term
      ⊎ IsEarlier (sent_in world) table key other.term one.term)
  -- an earlier term is less
  pub less : (table key earlier later : ℕ) → IsEarlier (sent_in world) table key earlier later → earlier < later
  -- no id is granted a point twice
  pub once : (table key : ℕ) (one other : Granted) → IsGranted (sent_in world) one → covers table key one ≡ true →
      IsGranted (sent_in world) other → covers table key other ≡ true → one.owner ≡ other.owner → one ≡ other
  -- under one term a key's versions rise with the place, and no two owners acknowledge one version of a key
  pub rise : VersionsRiseWithThePlace (replayed world).masters
  pub apart : NoVersionTwice (sent_in world)

-- Handovers

-- each later owner of the entry's point keeps it, at a durable place
abbrev pub OwnersKeep : Happened → Entry → Type 0
OwnersKeep world was = (grant : Granted) (owner : ServerId) → IsGranted (sent_in world) grant →
    grant.owner ≡ Server owner → IsEarlier (sent_in world) was.table was.key was.term grant.term →
    HasKept world.setup world.events owner grant.term was

-- what a master has acknowledged, then or since, stands in its log at the acknowledged place; it is what the master
-- has sent for that place; and each later owner keeps it
pub record IsHandedOn (world : Happened) (m : ServerId) (ack : Ack) : Type 0 where
  pub recorded : IsRecorded (log_of world.setup world.events m) ack
  pub made : HasMade (sent_in world) m ack.seg ack.offset recorded.entry
  pub kept : OwnersKeep world recorded.entry

pub record KeepsWrites (world : Happened) : Type 0 where
  -- what was acknowledged is handed on to each later owner of its point
  pub acknowledged : (m : ServerId) (ack : Ack) → HasAcknowledged (sent_in world) m ack → IsHandedOn world m ack
  -- and so is what is durable
  pub durable : (m : ServerId) (s o : ℕ) → IsDurable world.setup world.events m s o →
      (entry : Entry) × (entry_in (log_of world.setup world.events m) s o ≡ Some entry) × OwnersKeep world entry
