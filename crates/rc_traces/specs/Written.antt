-- The trace that a list of messages is: those of the five kinds, in order, as a JSON value, and its text.
use Rattle.std.specs.Prelude.{ℕ, List, [], ◌∷◌, ◌++◌, map, Option, Some, None, codes}
use Rattle.std.specs.Option.{option_to_list}
use Rattle.rc_types.specs.declared.ids.ServerId.{ServerId}
use Rattle.rc_types.specs.declared.ids.Addr.{Addr}
use Rattle.rc_types.specs.declared.ids.Addr.TheVariants.{Server}
use Rattle.rc_types.specs.declared.entries.Entry.{Entry}
use Rattle.rc_types.specs.declared.rows.KeyRange.{KeyRange}
use Rattle.rc_types.specs.declared.rows.PlanRow.{PlanRow}
use Rattle.rc_types.specs.declared.messages.Message.{Message}
use Rattle.rc_types.specs.declared.messages.Body.{Body}
use Rattle.rc_types.specs.declared.messages.Body.TheVariants.{Place, Append, WriteOk, Plan, Own}
use Rattle.hex.specs.Hex.{encode_lower}
use Rattle.serde_json.specs.Data.{Data, null, number, unsigned, string, array, object, Items, no_items, item}
use Rattle.serde_json.specs.Data.{no_members, member}
use Rattle.serde_json.specs.View.{items_of}
use Rattle.serde_json.specs.Written.{compact_text}

abbrev pub count_data : ℕ → Data
count_data n = number (unsigned n)

-- [index, generation]
abbrev pub id_data : ServerId → Data
id_data id = array (item (count_data id.index) (item (count_data id.generation) no_items))

-- a value's bytes in lower-case hexadecimal, or null
abbrev pub value_data : Option (List ℕ) → Data
value_data None = null
value_data (Some bytes) = string (encode_lower bytes)

-- [term, table, key, version, value]
abbrev pub entry_data : Entry → Data
entry_data entry = array (item (count_data entry.term) (item (count_data entry.table) (item (count_data entry.key)
    (item (count_data entry.version) (item (value_data entry.value) no_items)))))

abbrev pub entries_data : List Entry → Items
entries_data entries = items_of (map entry_data entries)

-- [segment, id, length]
abbrev pub row_data : PlanRow → Data
row_data row = array (item (count_data row.seg) (item (id_data row.holder) (item (count_data row.len) no_items)))

abbrev pub rows_data : List PlanRow → Items
rows_data rows = items_of (map row_data rows)

-- The messages: each an object whose members stand in the order of their names

abbrev pub place_data : ServerId → ℕ → List Entry → Data
place_data from seg entries =
    object (member (codes "entries") (array (entries_data entries)) (member (codes "from") (id_data from)
    (member (codes "m") (string (codes "place")) (member (codes "seg") (count_data seg) no_members))))

abbrev pub append_data : ServerId → ℕ → ℕ → List Entry → Data
append_data from seg offset entries = object (member (codes "entries") (array (entries_data entries))
    (member (codes "from") (id_data from) (member (codes "m") (string (codes "append"))
    (member (codes "offset") (count_data offset) (member (codes "seg") (count_data seg) no_members)))))

abbrev pub ok_data : ServerId → ℕ → ℕ → ℕ → ℕ → ℕ → ℕ → Data
ok_data from seg offset term table key version = object (member (codes "from") (id_data from)
    (member (codes "key") (count_data key)
    (member (codes "m") (string (codes "ok")) (member (codes "offset") (count_data offset)
    (member (codes "seg") (count_data seg)
    (member (codes "table") (count_data table) (member (codes "term") (count_data term)
    (member (codes "version") (count_data version) no_members))))))))

abbrev pub plan_data : ℕ → ServerId → List PlanRow → Data
plan_data attempt master rows = object (member (codes "attempt") (count_data attempt)
    (member (codes "m") (string (codes "plan")) (member (codes "of") (id_data master)
    (member (codes "rows") (array (rows_data rows)) no_members))))

abbrev pub own_data : ServerId → KeyRange → ℕ → ℕ → ℕ → Data
own_data to range term previous attempt = object (member (codes "attempt") (count_data attempt)
    (member (codes "hi") (count_data range.hi) (member (codes "lo") (count_data range.lo)
    (member (codes "m") (string (codes "own"))
    (member (codes "previous") (count_data previous) (member (codes "table") (count_data range.table)
    (member (codes "term") (count_data term) (member (codes "to") (id_data to) no_members))))))))

-- what stands in a trace for an acknowledgement of this server
abbrev pub ok_in : ServerId → Body → Option Data
ok_in from (WriteOk seg offset term table key version) = Some (ok_data from seg offset term table key version)
ok_in from _ = None

-- for what this server has sent
abbrev pub sent_data : ServerId → Body → Option Data
sent_data from (Place seg epoch digest entries closed) = Some (place_data from seg entries)
sent_data from (Append seg offset entries) = Some (append_data from seg offset entries)
sent_data from body = ok_in from body

-- for a grant to this server
abbrev pub own_in : ServerId → Body → Option Data
own_in to (Own range term previous attempt) = Some (own_data to range term previous attempt)
own_in to _ = None

abbrev pub grant_in : Addr → Body → Option Data
grant_in (Server to) body = own_in to body
grant_in _ body = None

abbrev pub sent_from : Addr → Body → Option Data
sent_from (Server from) body = sent_data from body
sent_from _ body = None

-- what stands in a trace for a message: nothing for one of another kind
abbrev pub body_data : Addr → Addr → Body → Option Data
body_data from to (Plan head attempt master rows parts) = Some (plan_data attempt master rows)
body_data from to (Own range term previous attempt) = grant_in to (Own range term previous attempt)
body_data from to body = sent_from from body

unfoldable pub message_data : Message → Option Data
message_data message = body_data message.from message.to message.body

abbrev pub messages_data : List Message → List Data
messages_data [] = []
messages_data (message ∷ messages) = option_to_list (message_data message) ++ messages_data messages

abbrev pub trace_data : List Message → Data
trace_data messages =
    object (member (codes "format") (count_data 1)
    (member (codes "messages") (array (items_of (messages_data messages))) no_members))

-- the compact text, and a line feed
abbrev pub trace_text : List Message → List ℕ
trace_text messages = compact_text (trace_data messages) ++ 10 ∷ []
