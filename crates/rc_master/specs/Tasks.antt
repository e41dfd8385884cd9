-- The tasks of a master beside its parts, and the Fetches of those at some places.
use Rattle.std.specs.Prelude.{◌≡◌, ℕ, List, [], ◌∷◌, ◌++◌, map, filter, slice_get}
use Rattle.std.specs.Option.{option_map_or}
use Rattle.rc_types.specs.declared.ids.ServerId.{ServerId}
use Rattle.rc_types.specs.declared.messages.Message.{Message}
use Rattle.rc_model.specs.Ownership.{Ownership, PartState}
use Rattle.rc_model.specs.Master.{Task}
use Rattle.rc_model.specs.MasterTick.{fetch_of, has_not_come}

-- for each part there is a task at its place, under its term
abbrev pub AreTasksOf : List PartState → List Task → Type 0
AreTasksOf parts tasks = map (λ task. task.part.term) tasks ≡ map (λ state. state.part.term) parts

-- the Fetches of the rows of a task that have not come
abbrev pub fetches_of : ServerId → Ownership → Task → List Message
fetches_of own ownership task = map (fetch_of own task) (filter (has_not_come ownership task) task.rows)

-- those of the tasks at these places
abbrev pub fetches_at : ServerId → Ownership → List Task → List ℕ → List Message
fetches_at own ownership tasks [] = []
fetches_at own ownership tasks (place ∷ places) =
    option_map_or (fetches_of own ownership) (slice_get tasks place) [] ++ fetches_at own ownership tasks places
