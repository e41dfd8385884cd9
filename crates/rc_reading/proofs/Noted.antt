-- The fields of an event after one more member.
use Rattle.std.proofs.Common.{◌≡◌, ℕ, List, [], ◌∷◌, Bool, true, false, ◌&&◌, if◌then◌else◌, codes, Option}
use Rattle.std.proofs.Common.{Some, None, option_map, option_and_then, bytes_eq, refl, ap, ◌∙◌}
use Rattle.serde_json.specs.Data.{Data, null, boolean, number, string, array, object, Members, put}
use Rattle.serde_json.specs.Find.{get}
use Rattle.rc_types.specs.declared.ids.ServerId.{ServerId}
use Rattle.rc_types.specs.declared.ids.Addr.TheVariants.{Coordinator, Server}
use Rattle.rc_reading.specs.declared.fields.Fields.{Fields}
use Rattle.rc_reading.specs.declared.names.EventName.{EventName}
use Rattle.rc_reading.specs.declared.names.EventName.TheVariants as event
use Rattle.rc_types.specs.declared.events.Event.{Event}
use Rattle.rc_types.specs.declared.events.Event.TheVariants.{Stop}
use Rattle.rc_reading.specs.declared.scenarios.ScenarioEvent.TheVariants.{Core}
use Rattle.rc_reading.specs.All.{no_kinds, no_hosts, start_members, id_members, write_members, read_members, deliver_members}
use Rattle.rc_reading.specs.All.{settle_members, create_members, split_members, is_one_of, has_only, only, field, host_of, table_of, key_of}
use Rattle.rc_reading.specs.Scenario.{suspects, decides}
use Rattle.rc_reading.specs.All.{message_of, id_of, addr_of, kept_of, kinds_of, hosts_of, written, event_name, event_of, event_by}
use Rattle.rc_reading.specs.All.{member_named, noted, fields_of, server_in, event_from, event_in, if_object}
use Rattle.rc_reading.proofs.Puts.{field_put, optional_put, only_put, by_names}

-- the same, by the texts of the names
abbrev expanded : List ℕ → Data → Fields → Fields
expanded k d f = record {
  only = record {
    start = is_one_of start_members k && f.only.start;
    id = is_one_of id_members k && f.only.id;
    write = is_one_of write_members k && f.only.write;
    read = is_one_of read_members k && f.only.read;
    deliver = is_one_of deliver_members k && f.only.deliver;
    settle = is_one_of settle_members k && f.only.settle;
    create = is_one_of create_members k && f.only.create;
    split = is_one_of split_members k && f.only.split;
  };
  event = if bytes_eq k (codes "e") then event_name d else f.event;
  host = if bytes_eq k (codes "host") then host_of d else f.host;
  kept = if bytes_eq k (codes "kept") then kept_of d else f.kept;
  addr = if bytes_eq k (codes "id") then addr_of d else f.addr;
  to = if bytes_eq k (codes "to") then id_of d else f.to;
  table = if bytes_eq k (codes "table") then table_of d else f.table;
  key = if bytes_eq k (codes "key") then key_of d else f.key;
  value = if bytes_eq k (codes "value") then written d else f.value;
  number = if bytes_eq k (codes "n") then message_of d else f.number;
  kinds = if bytes_eq k (codes "kinds") then kinds_of d else f.kinds;
  hosts = if bytes_eq k (codes "hosts") then hosts_of d else f.hosts;
  owner = if bytes_eq k (codes "owner") then id_of d else f.owner;
  at = if bytes_eq k (codes "at") then key_of d else f.at;
}

put_expanded : (k : List ℕ) (d : Data) (ms : Members) → fields_of (object (put k d ms)) ≡ expanded k d (fields_of (object ms))
put_expanded k d ms =
    rw (
      only_put start_members k d ms,
      only_put id_members k d ms,
      only_put write_members k d ms,
      only_put read_members k d ms,
      only_put deliver_members k d ms,
      only_put settle_members k d ms,
      only_put create_members k d ms,
      only_put split_members k d ms,
      field_put (codes "e") event_name k d ms,
      field_put (codes "host") host_of k d ms,
      optional_put [] (codes "kept") kept_of k d ms,
      field_put (codes "id") addr_of k d ms,
      field_put (codes "to") id_of k d ms,
      field_put (codes "table") table_of k d ms,
      field_put (codes "key") key_of k d ms,
      field_put (codes "value") written k d ms,
      field_put (codes "n") message_of k d ms,
      optional_put no_kinds (codes "kinds") kinds_of k d ms,
      optional_put no_hosts (codes "hosts") hosts_of k d ms,
      field_put (codes "owner") id_of k d ms,
      field_put (codes "at") key_of k d ms,
    )
    refl

expanded_noted : (k : List ℕ) (d : Data) (f : Fields) → expanded k d f ≡ noted (member_named k) d f
expanded_noted k d f =
    by_names (λ name. expanded name d f ≡ noted (member_named name) d f) k
    (codes "e" ∷ codes "host" ∷ codes "kept" ∷ codes "id" ∷ codes "to" ∷ codes "table" ∷ codes "key" ∷ codes "value" ∷ codes "n" ∷
    codes "kinds" ∷ codes "hosts" ∷ codes "owner" ∷ codes "at" ∷ [])
    refl refl refl refl refl refl refl refl refl refl refl refl refl
    (λ n1 n2 n3 n4 n5 n6 n7 n8 n9 n10 n11 n12 n13. rw (n1, n2, n3, n4, n5, n6, n7, n8, n9, n10, n11, n12, n13) refl)

pub put_noted : (k : List ℕ) (d : Data) (ms : Members) → fields_of (object (put k d ms)) ≡ noted (member_named k) d (fields_of (object ms))
put_noted k d ms = put_expanded k d ms ∙ expanded_noted k d (fields_of (object ms))

-- ---- the event that the fields say

letter_is_none : (b : Bool) → None ≡ server_in (if b then Some Coordinator else None)
letter_is_none true = refl
letter_is_none false = refl

id_is : (o : Option ServerId) → o ≡ server_in (option_map Server o)
id_is None = refl
id_is (Some id) = refl

server_of : (d : Data) → id_of d ≡ server_in (addr_of d)
server_of null = refl
server_of (boolean b) = refl
server_of (number n) = refl
server_of (string s) = letter_is_none (bytes_eq s (codes "c"))
server_of (array ds) = id_is (id_of (array ds))
server_of (object ms) = refl

server_at : (o : Option Data) → option_and_then id_of o ≡ server_in (option_and_then addr_of o)
server_at None = refl
server_at (Some d) = server_of d

-- an event of the world whose members are all allowed, and else none
core_only : (members : List (List ℕ)) (d : Data) (o : Option Event) →
    option_map Core (only members d o) ≡ only members d (option_map Core o)
core_only members d o = by_test (has_only members d)
  where
    by_test : (b : Bool) → option_map Core (if b then o else None) ≡ (if b then option_map Core o else None)
    by_test true = refl
    by_test false = refl

server_named : (wrap : ServerId → Event) (d : Data) →
    option_map Core (only id_members d (option_map wrap (field (codes "id") id_of d)))
    ≡ only id_members d (option_map Core (option_map wrap (server_in (option_and_then addr_of (get (codes "id") d)))))
server_named wrap d =
    core_only id_members d (option_map wrap (field (codes "id") id_of d))
    ∙ ap (λ o. only id_members d (option_map Core (option_map wrap o))) (server_at (get (codes "id") d))

by_name : (name : EventName) (d : Data) → event_by name d ≡ event_from name (fields_of d)
by_name event.Start d = core_only start_members d _
by_name event.Stop d = server_named Stop d
by_name event.Suspect d = server_named suspects d
by_name event.Decide d = server_named decides d
by_name event.Tick d = core_only id_members d _
by_name event.Write d = core_only write_members d _
by_name event.Read d = core_only read_members d _
by_name event.Deliver d = core_only deliver_members d _
by_name event.Settle d = refl
by_name event.Create d = core_only create_members d _
by_name event.Split d = core_only split_members d _

by_field : (o : Option EventName) (d : Data) →
    option_and_then (λ name. event_by name d) o ≡ option_and_then (λ name. event_from name (fields_of d)) o
by_field None d = refl
by_field (Some name) d = by_name name d

-- the event that an object's members say
pub event_found : (d : Data) → event_of d ≡ option_and_then event_in (if_object fields_of d)
unfolding event_of
event_found null = refl
event_found (boolean b) = refl
event_found (number n) = refl
event_found (string s) = refl
event_found (array ds) = refl
event_found (object ms) = by_field (field (codes "e") event_name (object ms)) (object ms)
