-- The server list: every id that was ever enlisted, in the order of enlisting, with a mark whether it
-- is up, and a version that rises with each change. An id that has crashed is never up again.
use Rattle.std.specs.Prelude.{ℕ, ◌+◌, Bool, true, false, nat_eq, nat_lt, ◌&&◌, if◌then◌else◌, List, [], ◌∷◌, ◌++◌}
use Rattle.std.specs.Prelude.{map}
use Rattle.std.specs.List.{list_any, list_all}
use Rattle.rc_types.specs.declared.ids.ServerId.{ServerId}
use Rattle.rc_model.specs.Ids.{same_id, ids_in_order}

pub record ServerList : Type 0 where
  pub version : ℕ
  pub rows : List (ServerId × Bool)

-- nobody is known
abbrev pub no_servers : ServerList
no_servers = record { version = 0; rows = [] }

-- the id has a row
abbrev pub knows : List (ServerId × Bool) → ServerId → Bool
knows rows id = list_any (λ row. same_id id row.0) rows

-- the id has a row, and it is marked up
abbrev pub marked_up : List (ServerId × Bool) → ServerId → Bool
marked_up [] id = false
marked_up (row ∷ rows) id = if same_id id row.0 then row.1 else marked_up rows id

abbrev pub is_up : ServerList → ServerId → Bool
is_up servers id = marked_up servers.rows id

-- the id has a row, and it is not marked up
abbrev pub has_crashed : ServerList → ServerId → Bool
has_crashed servers id = knows servers.rows id && (if marked_up servers.rows id then false else true)

-- the ids that are marked up, in the order of the rows
abbrev pub up_rows : List (ServerId × Bool) → List ServerId
up_rows [] = []
up_rows (row ∷ rows) = if row.1 then row.0 ∷ up_rows rows else up_rows rows

-- the ids that are up, in order
abbrev pub up : ServerList → List ServerId
up servers = ids_in_order (up_rows servers.rows)

-- the generation is above all known of its index
abbrev pub is_newest : ServerId → List (ServerId × Bool) → Bool
is_newest id rows =
    list_all (λ row. if nat_eq row.0.index id.index then nat_lt row.0.generation id.generation else true) rows

-- every id of the index is marked crashed
abbrev pub index_crashed : ℕ → List (ServerId × Bool) → List (ServerId × Bool)
index_crashed index rows = map (λ row. (row.0, (if nat_eq row.0.index index then false else row.1))) rows

-- a new id is up, and older generations of its index have crashed
abbrev pub enlisted : ServerId → ServerList → ServerList
enlisted id servers =
    record { version = servers.version + 1; rows = index_crashed id.index servers.rows ++ (id, true) ∷ [] }

-- the id is marked crashed
abbrev pub id_crashed : ServerId → List (ServerId × Bool) → List (ServerId × Bool)
id_crashed id rows = map (λ row. (row.0, (if same_id id row.0 then false else row.1))) rows

-- an id that is up crashes; of another nothing changes
abbrev pub crashed : ServerId → ServerList → ServerList
crashed id servers =
    if is_up servers id then record { version = servers.version + 1; rows = id_crashed id servers.rows } else servers

-- of rows with one id the first counts
abbrev pub first_rows : List (ServerId × Bool) → List (ServerId × Bool) → List (ServerId × Bool)
first_rows before [] = before
first_rows before (row ∷ rows) =
    if knows before row.0 then first_rows before rows else first_rows (before ++ row ∷ []) rows

-- the list of a List message
abbrev pub from_rows : ℕ → List (ServerId × Bool) → ServerList
from_rows version rows = record { version = version; rows = first_rows [] rows }

abbrev pub newer_than : ServerList → ServerList → Bool
newer_than servers other = nat_lt other.version servers.version
