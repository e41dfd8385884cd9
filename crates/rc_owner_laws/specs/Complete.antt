-- When a part is complete, in every world: where its own entries are durable, and no others count for them.
use Rattle.std.specs.Prelude.{◌≡◌, ◌↔◌, true, false, List, [], map}
use Rattle.rc_types.specs.declared.ids.ServerId.{ServerId}
use Rattle.rc_types.specs.declared.entries.Entry.{Entry}
use Rattle.rc_types.specs.declared.events.Setup.{Setup}
use Rattle.rc_types.specs.declared.events.Event.{Event}
use Rattle.rc_types.specs.declared.messages.Message.{Message}
use Rattle.rc_model.specs.Ownership.{PartState, owns_term, under_term, is_complete}
use Rattle.rc_model.specs.Master.{Master, Task, durable_entries, durable_replayed}
use Rattle.rc_model.specs.World.{replay}
use Rattle.rc_model.specs.Headline.{In}
use Rattle.rc_step_laws.specs.Words.{Begins}
use Rattle.rc_owner_laws.specs.Parts.{under, AllCame, rows_of_task}

-- a part's own entries: all that was sent for the rows of its task, in their order, under its term
pub record AreItsOwn (sent : List Message) (m : ServerId) (master : Master) (state : PartState) (own : List Entry) :
    Type 0 where
  pub task : Task
  pub among : In task master.tasks
  pub part_is : task.part ≡ state.part
  pub entries : List Entry
  pub came : AllCame sent m state.part.term (rows_of_task task) entries
  pub own_are : own ≡ map (under_term state.part.term) entries

-- a part is complete exactly where all of its own entries are durable, as the first under its term; and until its
-- term is owned nothing else under its term is durable
pub record CompletesWithItsOwn (sent : List Message) (m : ServerId) (master : Master) (state : PartState) : Type 0 where
  pub own : List Entry
  pub are : AreItsOwn sent m master state own
  pub complete : (is_complete (durable_replayed master) state ≡ true) ↔
      Begins own (under state.part.term (durable_entries master))
  pub alone : owns_term master.ownership state.part.term ≡ false →
      Begins (under state.part.term (durable_entries master)) own

-- so it is after any list of events of every part of a master whose rows have all come
abbrev pub PartsCompleteWithTheirOwn : Type 0
PartsCompleteWithTheirOwn = (setup : Setup) (events : List Event) (m : ServerId) (state : PartState) →
    In state ((replay setup events).masters m).ownership.parts → state.rows ≡ [] →
    CompletesWithItsOwn (replay setup events).sent m ((replay setup events).masters m) state
