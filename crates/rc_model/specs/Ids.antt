-- Ids: when two are the same, and their order.
use Rattle.std.specs.Prelude.{Bool, false, nat_eq, nat_lt, ◌&&◌, ◌||◌, if◌then◌else◌, List, [], ◌∷◌}
use Rattle.std.specs.List.{list_any}
use Rattle.rc_types.specs.declared.ids.ServerId.{ServerId}
use Rattle.rc_types.specs.declared.ids.Addr.{Addr}
use Rattle.rc_types.specs.declared.ids.Addr.TheVariants.{Server}

-- the same index and the same generation
abbrev pub same_id : ServerId → ServerId → Bool
same_id a b = nat_eq a.index b.index && nat_eq a.generation b.generation

-- a comes before b: a lower index, or the same index and a lower generation
abbrev pub id_before : ServerId → ServerId → Bool
id_before a b = nat_lt a.index b.index || (nat_eq a.index b.index && nat_lt a.generation b.generation)

-- the list of ids in order with one more, which is put before the first that it comes before
abbrev pub insert_id : ServerId → List ServerId → List ServerId
insert_id id [] = id ∷ []
insert_id id (other ∷ ids) = if id_before id other then id ∷ other ∷ ids else other ∷ insert_id id ids

-- the ids in order
abbrev pub ids_in_order : List ServerId → List ServerId
ids_in_order [] = []
ids_in_order (id ∷ ids) = insert_id id (ids_in_order ids)

-- the address is this server's
abbrev pub is_server : ServerId → Addr → Bool
is_server id (Server other) = same_id id other
is_server id _ = false

-- the list of ids in order with this one in it, once
abbrev pub insert_id_once : ServerId → List ServerId → List ServerId
insert_id_once id [] = id ∷ []
insert_id_once id (other ∷ ids) =
    if id_before id other then id ∷ other ∷ ids
    else (if same_id id other then other ∷ ids else other ∷ insert_id_once id ids)

-- the id stands in the list
abbrev pub has_id : ServerId → List ServerId → Bool
has_id id ids = list_any (same_id id) ids
