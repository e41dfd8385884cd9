-- The fields of a message after one more member.
use Rattle.std.proofs.Common.{[], ◌≡◌, ℕ, List, ◌∷◌, ◌&&◌, if◌then◌else◌, codes, Option, Some, None, option_and_then, bytes_eq, refl, ◌∙◌}
use Rattle.serde_json.specs.Data.{Data, null, boolean, number, string, array, object, Members, put}
use Rattle.rc_reading.specs.All.{is_one_of, field, id_of, if_object, table_of, key_of}
use Rattle.rc_reading.proofs.Puts.{field_put, only_put, by_names}
use Rattle.rc_traces.specs.declared.fields.Fields.{Fields}
use Rattle.rc_traces.specs.declared.names.MessageName.{MessageName}
use Rattle.rc_traces.specs.declared.names.MessageName.TheVariants as message
use Rattle.rc_traces.specs.Names.{place_members, append_members, ok_members, plan_members, own_members}
use Rattle.rc_traces.specs.Values.{seg_of, number_of}
use Rattle.rc_traces.specs.Trace.{entries_of, rows_of, message_name, message_by, message_of}
use Rattle.rc_traces.specs.Fields.{member_named, noted, fields_of, message_from, message_in}

-- the same, by the texts of the names
abbrev expanded : List ℕ → Data → Fields → Fields
expanded k d f = record {
  only = record {
    place = is_one_of place_members k && f.only.place;
    append = is_one_of append_members k && f.only.append;
    ok = is_one_of ok_members k && f.only.ok;
    plan = is_one_of plan_members k && f.only.plan;
    own = is_one_of own_members k && f.only.own;
  };
  name = if bytes_eq k (codes "m") then message_name d else f.name;
  from = if bytes_eq k (codes "from") then id_of d else f.from;
  seg = if bytes_eq k (codes "seg") then seg_of d else f.seg;
  offset = if bytes_eq k (codes "offset") then number_of d else f.offset;
  entries = if bytes_eq k (codes "entries") then entries_of d else f.entries;
  term = if bytes_eq k (codes "term") then number_of d else f.term;
  table = if bytes_eq k (codes "table") then table_of d else f.table;
  key = if bytes_eq k (codes "key") then key_of d else f.key;
  version = if bytes_eq k (codes "version") then key_of d else f.version;
  attempt = if bytes_eq k (codes "attempt") then number_of d else f.attempt;
  master = if bytes_eq k (codes "of") then id_of d else f.master;
  rows = if bytes_eq k (codes "rows") then rows_of d else f.rows;
  to = if bytes_eq k (codes "to") then id_of d else f.to;
  lo = if bytes_eq k (codes "lo") then key_of d else f.lo;
  hi = if bytes_eq k (codes "hi") then key_of d else f.hi;
  previous = if bytes_eq k (codes "previous") then number_of d else f.previous;
}

put_expanded : (k : List ℕ) (d : Data) (ms : Members) → fields_of (object (put k d ms)) ≡ expanded k d (fields_of (object ms))
put_expanded k d ms =
    rw (
      only_put place_members k d ms,
      only_put append_members k d ms,
      only_put ok_members k d ms,
      only_put plan_members k d ms,
      only_put own_members k d ms,
      field_put (codes "m") message_name k d ms,
      field_put (codes "from") id_of k d ms,
      field_put (codes "seg") seg_of k d ms,
      field_put (codes "offset") number_of k d ms,
      field_put (codes "entries") entries_of k d ms,
      field_put (codes "term") number_of k d ms,
      field_put (codes "table") table_of k d ms,
      field_put (codes "key") key_of k d ms,
      field_put (codes "version") key_of k d ms,
      field_put (codes "attempt") number_of k d ms,
      field_put (codes "of") id_of k d ms,
      field_put (codes "rows") rows_of k d ms,
      field_put (codes "to") id_of k d ms,
      field_put (codes "lo") key_of k d ms,
      field_put (codes "hi") key_of k d ms,
      field_put (codes "previous") number_of k d ms,
    )
    refl

expanded_noted : (k : List ℕ) (d : Data) (f : Fields) → expanded k d f ≡ noted (member_named k) d f
expanded_noted k d f =
    by_names (λ name. expanded name d f ≡ noted (member_named name) d f) k
    (codes "m" ∷ codes "from" ∷ codes "seg" ∷ codes "offset" ∷ codes "entries" ∷ codes "term" ∷ codes "table" ∷ codes "key" ∷
    codes "version" ∷ codes "attempt" ∷ codes "of" ∷ codes "rows" ∷ codes "to" ∷ codes "lo" ∷ codes "hi" ∷ codes "previous" ∷ [])
    refl refl refl refl refl refl refl refl refl refl refl refl refl refl refl refl
    (λ n1 n2 n3 n4 n5 n6 n7 n8 n9 n10 n11 n12 n13 n14 n15 n16. rw (n1, n2, n3, n4, n5, n6, n7, n8, n9, n10, n11, n12, n13, n14, n15, n16)
    refl)

pub put_noted : (k : List ℕ) (d : Data) (ms : Members) → fields_of (object (put k d ms)) ≡ noted (member_named k) d (fields_of (object ms))
put_noted k d ms = put_expanded k d ms ∙ expanded_noted k d (fields_of (object ms))

-- ---- the message that the fields say

by_name : (name : MessageName) (d : Data) → message_by name d ≡ message_from name (fields_of d)
by_name message.Place d = refl
by_name message.Append d = refl
by_name message.Ok d = refl
by_name message.Plan d = refl
by_name message.Own d = refl

by_field : (o : Option MessageName) (d : Data) →
    option_and_then (λ name. message_by name d) o ≡ option_and_then (λ name. message_from name (fields_of d)) o
by_field None d = refl
by_field (Some name) d = by_name name d

-- the message that an object's members say
pub message_found : (d : Data) → message_of d ≡ option_and_then message_in (if_object fields_of d)
unfolding message_of
message_found null = refl
message_found (boolean b) = refl
message_found (number n) = refl
message_found (string s) = refl
message_found (array ds) = refl
message_found (object ms) = by_field (field (codes "m") message_name (object ms)) (object ms)
