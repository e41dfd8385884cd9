-- Words in which the claims on data, grants and handovers are said.
use Rattle.std.specs.Prelude.{◌≡◌, ◌⊎◌, ℕ, ◌<◌, List, filter, take, Some, slice_get}
use Rattle.rc_types.specs.declared.ids.ServerId.{ServerId}
use Rattle.rc_types.specs.declared.ids.Addr.TheVariants.{Server}
use Rattle.rc_types.specs.declared.entries.Entry.{Entry}
use Rattle.rc_types.specs.declared.rows.Part.{Part}
use Rattle.rc_types.specs.declared.rows.PlanRow.{PlanRow}
use Rattle.rc_types.specs.declared.messages.Message.{Message}
use Rattle.rc_types.specs.declared.messages.Body.TheVariants.{Plan as PlanBody}
use Rattle.rc_model.specs.Backup.{is_in_part}
use Rattle.rc_model.specs.Recovered.{Ack, Accepted}
use Rattle.rc_model.specs.Owners.{Granted, IsGranted, IsEarlier}
use Rattle.rc_model.specs.Base.{made_below, base}
use Rattle.rc_model.specs.Log.{Log, LogPlace, entries_of, places_of}
use Rattle.rc_model.specs.Master.{Master}
use Rattle.rc_model.specs.Headline.{In, WasAccepted}
use Rattle.rc_step_laws.specs.Words.{Begins, log_in}
use Rattle.rc_step_laws.specs.Facts.{IsSafe}
use Rattle.rc_step_laws.specs.WordClaims.{IsRecorded}
use Rattle.rc_owner_laws.specs.Parts.{under}

-- the place is among those that the master counts as durable
pub record IsCounted (log : Log) (seg offset : ℕ) : Type 0 where
  pub index : ℕ
  pub place : LogPlace
  pub below : index < log.durable
  pub at : slice_get (places_of log) index ≡ Some place
  pub seg_is : place.seg ≡ seg
  pub offset_is : place.offset ≡ offset

-- an entry stands at a safe place of a log, one that is counted as durable
pub record IsSafelyLogged (sent : List Message) (m : ServerId) (log : Log) (entry : Entry) : Type 0 where
  pub seg : ℕ
  pub offset : ℕ
  pub safe : IsSafe sent m log seg offset
  pub holds : slice_get (log_in log seg) offset ≡ Some entry
  pub counted : IsCounted log seg offset

-- the entry is of the same key, and has the same version and value, or, where segments are freed, a greater version
pub record IsKeptBy (Freed : Type 0) (was entry : Entry) : Type 0 where
  pub table_is : entry.table ≡ was.table
  pub key_is : entry.key ≡ was.key
  pub kept : ((entry.version ≡ was.version) × (entry.value ≡ was.value)) ⊎ (Freed × (was.version < entry.version))

-- a safe place of a log keeps it so under the term
pub record Keeps (Freed : Type 0) (sent : List Message) (m : ServerId) (log : Log) (term : ℕ) (was : Entry) :
    Type 0 where
  pub entry : Entry
  pub at : IsSafelyLogged sent m log entry
  pub term_is : entry.term ≡ term
  pub keeps : IsKeptBy Freed was entry

-- A Data is of a plan to its addressee, with a part of its term and a row of its segment whose holder is the sender.
-- Its entries are those made below that row's length that have the part's previous term and lie in its range, in
-- order.
pub record IsPlanCut (sent : List Message) (message : Message) (attempt seg term : ℕ) (entries : List Entry) :
    Type 0 where
  pub plan : Message
  pub among : In plan sent
  pub to : plan.to ≡ message.to
  pub master : ServerId
  pub head : ℕ
  pub rows : List PlanRow
  pub parts : List Part
  pub says : plan.body ≡ PlanBody head attempt master rows parts
  pub part : Part
  pub part_among : In part parts
  pub term_is : part.term ≡ term
  pub row : PlanRow
  pub row_among : In row rows
  pub seg_is : row.seg ≡ seg
  pub from : message.from ≡ Server row.holder
  pub entries_are : entries ≡ filter (is_in_part part) (made_below sent master seg row.len)

-- The base of the grant, by the one accepted recovery of its attempt, however often its Plan was sent, is the first
-- that its owner's log has under its term. All of it is durable, and each of its entries stands at a safe place.
pub record StartsFromBase (sent : List Message) (x : ServerId) (log : Log) (grant : Granted) : Type 0 where
  pub plan : Accepted
  pub accepted : WasAccepted sent plan
  pub attempt_is : plan.attempt ≡ grant.attempt
  pub only : (other : Accepted) → WasAccepted sent other → other.attempt ≡ grant.attempt → other ≡ plan
  pub begins : Begins (base sent plan grant) (under grant.term (take log.durable (entries_of log)))
  pub safe : (entry : Entry) → In entry (base sent plan grant) → IsSafelyLogged sent x log entry

-- what a master has acknowledged stands in its log, and what stands there each later owner of its point keeps
pub record IsCarriedOn (Freed : Type 0) (sent : List Message) (masters : ServerId → Master) (m : ServerId)
    (ack : Ack) : Type 0 where
  pub recorded : IsRecorded (masters m).log ack
  pub kept : (grant : Granted) (x : ServerId) → IsGranted sent grant → grant.owner ≡ Server x →
      IsEarlier sent ack.table ack.key ack.term grant.term →
      Keeps Freed sent x (masters x).log grant.term recorded.entry
