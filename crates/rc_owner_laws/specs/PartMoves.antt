-- What a master's step keeps of its parts, and what it says of them.
use Rattle.std.specs.Prelude.{◌≡◌, ℕ, ◌<◌, ◌≤◌, true, List, []}
use Rattle.rc_types.specs.declared.ids.ServerId.{ServerId}
use Rattle.rc_types.specs.declared.ids.Addr.{Addr}
use Rattle.rc_types.specs.declared.ids.Addr.TheVariants.{Server}
use Rattle.rc_types.specs.declared.rows.Part.{Part}
use Rattle.rc_types.specs.declared.rows.PlanRow.{PlanRow}
use Rattle.rc_types.specs.declared.kept.GrantedRange.{GrantedRange}
use Rattle.rc_types.specs.declared.messages.Message.{Message}
use Rattle.rc_types.specs.declared.messages.Body.{Body}
use Rattle.rc_types.specs.declared.messages.Body.TheVariants as body
use Rattle.rc_model.specs.Messages.{between}
use Rattle.rc_model.specs.Log.{Log, LogPlace, is_writing}
use Rattle.rc_model.specs.Ownership.{PartState}
use Rattle.rc_model.specs.Master.{Master, Task}
use Rattle.rc_model.specs.FollowUps.{attempt_of}
use Rattle.rc_model.specs.Headline.{In}
use Rattle.rc_step_laws.specs.Words.{Begins}
use Rattle.rc_owner_laws.specs.Parts.{PartView, part_view, durable_under, GoodParts}

-- a head that writes is one
abbrev pub HasHead : Log → Type 0
HasHead log = is_writing log.phase ≡ true → 0 < log.head

-- What a master says of its parts

-- the part of the term has joined, and as many entries as it has are durable under its term
pub record IsComplete (v : PartView) (term : ℕ) : Type 0 where
  pub state : PartState
  pub among : In state v.own.parts
  pub term_is : state.part.term ≡ term
  pub rows : state.rows ≡ []
  pub durable : state.size ≤ durable_under term v

pub record HasEnded (v : PartView) (attempt term : ℕ) : Type 0 where
  pub complete : IsComplete v term
  pub attempt_is : attempt_of term v.tasks ≡ attempt

-- a row of a task is asked for, of its holder
pub record HasFetched (v : PartView) (to : Addr) (attempt : ℕ) (master : ServerId) (seg len : ℕ) (part : Part) :
    Type 0 where
  pub task : Task
  pub among : In task v.tasks
  pub attempt_is : task.attempt ≡ attempt
  pub master_is : task.master ≡ master
  pub part_is : task.part ≡ part
  pub row : PlanRow
  pub row_among : In row task.rows
  pub to_is : to ≡ Server row.holder
  pub seg_is : row.seg ≡ seg
  pub len_is : row.len ≡ len

-- an acknowledgement is of a client's entry in the log
pub record HasWritten (v : PartView) (seg offset term table key version : ℕ) : Type 0 where
  pub place : LogPlace
  pub among : In place v.places
  pub client : place.client ≡ true
  pub seg_is : place.seg ≡ seg
  pub offset_is : place.offset ≡ offset
  pub term_is : place.entry.term ≡ term
  pub table_is : place.entry.table ≡ table
  pub key_is : place.entry.key ≡ key
  pub version_is : place.entry.version ≡ version

abbrev pub part_said : PartView → Addr → Body → Type 0
part_said v to (body.WriteOk seg offset term table key version) = HasWritten v seg offset term table key version
part_said v to (body.Recovered attempt term) = HasEnded v attempt term
part_said v to (body.Fetch attempt master seg len part) = HasFetched v to attempt master seg len part
part_said v to _ = Unit {0}

-- What only grows

-- a part that has joined stays as it is
pub record StateLater (v : PartView) (old : PartState) : Type 0 where
  pub now : PartState
  pub among : In now v.own.parts
  pub part_is : now.part ≡ old.part
  pub rows : now.rows ≡ []
  pub size : now.size ≡ old.size

pub record PartsLater (old new : PartView) : Type 0 where
  pub places : Begins old.places new.places
  pub durable : old.durable ≤ new.durable
  pub grants : (grant : GrantedRange) → In grant old.own.grants → In grant new.own.grants
  pub tasks : (task : Task) → In task old.tasks → In task new.tasks
  pub attempts : (task : Task) → In task old.tasks → attempt_of task.part.term new.tasks ≡ attempt_of task.part.term
      old.tasks
  pub joined : (state : PartState) → In state old.own.parts → state.rows ≡ [] → StateLater new state

-- A step

pub record PartsMoved (sent : List Message) (m : ServerId) (old : Master) (after : Master × List Message) : Type 0 where
  pub head : HasHead after.0.log
  pub good : GoodParts sent m (part_view after.0)
  pub later : PartsLater (part_view old) (part_view after.0)
  pub says : (message : Message) → In message after.1 → part_said (part_view after.0) message.to message.body

-- what a master hears of its parts was sent to it; and an Own of a part's term comes after its end
abbrev pub PartsHear : List Message → ServerId → PartView → Addr → Body → Type 0
PartsHear sent m v from (body.Plan head attempt master rows parts) =
    In (record { from = from; to = Server m; body = body.Plan head attempt master rows parts }) sent
PartsHear sent m v (Server x) (body.Data attempt seg term entries) =
    In (between x m (body.Data attempt seg term entries)) sent
PartsHear sent m v from (body.Own range term previous attempt) =
    In (record { from = from; to = Server m; body = body.Own range term previous attempt }) sent
    × ((state : PartState) → In state v.own.parts → state.part.term ≡ term → IsComplete v term)
PartsHear sent m v from _ = Unit {0}
