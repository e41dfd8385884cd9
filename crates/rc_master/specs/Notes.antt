-- The notes beside a log, by which the owner numbers versions and reads, and the tasks beside the owner's parts.
use Rattle.std.specs.Prelude.{◌≡◌, ◌<◌, ℕ, Bool, true, not, List, map, Option, None}
use Rattle.rc_types.specs.declared.entries.Entry.{Entry}
use Rattle.rc_model.specs.Log.{Log, places_of, entries_of, is_writing}
use Rattle.rc_model.specs.Ownership.{PartState}
use Rattle.rc_model.specs.Master.{Task}
use Rattle.rc_master.specs.Tasks.{AreTasksOf}

-- the entries of the log were noted, of each whether it was replayed, and how many of them are durable; what was
-- handed out was noted; a log that is written to has a head, and each segment has replicas; and each part has its task
pub record AreNotes (log : Log) (noted : List Entry) (replayed : List Bool) (handed : Option ℕ) (durable : ℕ)
    (parts : List PartState) (tasks : List Task) : Type 0 where
  pub entries : noted ≡ entries_of log
  pub replays : replayed ≡ map (λ place. not place.client) (places_of log)
  pub none_handed : handed ≡ None
  pub durable_are : durable ≡ log.durable
  pub opened : is_writing log.phase ≡ true → 0 < log.head
  pub replicas : 0 < log.factor
  pub tasks_are : AreTasksOf parts tasks
