-- Notes beside other parts and tasks.
use Rattle.std.proofs.Common.{ℕ, Bool, List, Option}
use Rattle.rc_model.specs.Model.{Entry, Log, PartState, Task}
use Rattle.rc_master.specs.Tasks.{AreTasksOf}
use Rattle.rc_master.specs.Notes.{AreNotes}

-- the notes with these parts and tasks
pub notes-parts : {log : Log} {notes : List Entry} {replayed : List Bool} {handed : Option ℕ} {durable : ℕ}
    {parts after : List PartState} {tasks all : List Task} →
    AreTasksOf after all → AreNotes log notes replayed handed durable parts tasks →
    AreNotes log notes replayed handed durable after all
notes-parts are held = record {
  entries = held.entries;
  replays = held.replays;
  none_handed = held.none_handed;
  durable_are = held.durable_are;
  opened = held.opened;
  replicas = held.replicas;
  tasks_are = are;
}
