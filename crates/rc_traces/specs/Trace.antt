-- What a JSON value says as a trace: messages of five kinds, of which it carries what a judge asks. The rest is 0,
-- empty or false.
use Rattle.std.specs.Prelude.{ℕ, Bool, false, ◌&&◌, is_some, if◌then◌else◌, List, [], ◌∷◌, ◌++◌, Option, Some}
use Rattle.std.specs.Prelude.{None, option_map, option_and_then, Result, Err, codes}
use Rattle.rc_types.specs.declared.ids.ServerId.{ServerId}
use Rattle.rc_types.specs.declared.ids.Addr.{Addr}
use Rattle.rc_types.specs.declared.ids.Addr.TheVariants.{Server, Coordinator, Outside}
use Rattle.rc_types.specs.declared.entries.Entry.{Entry}
use Rattle.rc_types.specs.declared.rows.KeyRange.{KeyRange}
use Rattle.rc_types.specs.declared.rows.PlanRow.{PlanRow}
use Rattle.rc_types.specs.declared.messages.Message.{Message}
use Rattle.rc_types.specs.declared.messages.Body.TheVariants as body
use Rattle.serde_json.specs.Data.{Data}
use Rattle.serde_json.specs.Find.{as_str}
use Rattle.rc_reading.specs.Values.{has_only, only, field, given3, given4, whole, list_of, list_from, id_of}
use Rattle.rc_reading.specs.Values.{table_of, key_of}
use Rattle.rc_reading.specs.Lists.{all_said}
use Rattle.serde_json.specs.Read.{read}
use Rattle.rc_reading.specs.Scenario.{value_in}
use Rattle.rc_traces.specs.declared.names.MessageName.{MessageName}
use Rattle.rc_traces.specs.declared.names.MessageName.TheVariants as name
use Rattle.rc_traces.specs.Names.{message_named, place_members, append_members, ok_members, plan_members, own_members}
use Rattle.rc_traces.specs.Names.{trace_members}
use Rattle.rc_traces.specs.Values.{given5, given7, seg_of, number_of, value_of}

-- Entries and rows

abbrev pub entry_with : ℕ → ℕ → ℕ → ℕ → Option (List ℕ) → Entry
entry_with term table key version value =
    record { term = term; table = table; key = key; version = version; value = value }

-- [term, table, key, version, value]
abbrev pub entry_in : List Data → Option Entry
entry_in (term ∷ table ∷ key ∷ version ∷ value ∷ []) =
    given5 entry_with (number_of term) (table_of table) (key_of key) (key_of version) (value_of value)
entry_in _ = None

abbrev pub entry_of : Data → Option Entry
entry_of d = option_and_then entry_in (list_of d)

abbrev pub take_entry : List Entry → Data → Option (List Entry)
take_entry entries d = option_map (λ entry. entries ++ entry ∷ []) (option_and_then entry_in (list_of d))

abbrev pub entries_of : Data → Option (List Entry)
entries_of = list_from take_entry []

abbrev pub row_with : ℕ → ServerId → ℕ → PlanRow
row_with seg holder len = record { seg = seg; holder = holder; len = len }

-- [segment, id, length]
abbrev pub row_in : List Data → Option PlanRow
row_in (seg ∷ holder ∷ len ∷ []) = given3 row_with (seg_of seg) (id_of holder) (number_of len)
row_in _ = None

abbrev pub row_of : Data → Option PlanRow
row_of d = option_and_then row_in (list_of d)

abbrev pub take_row : List PlanRow → Data → Option (List PlanRow)
take_row rows d = option_map (λ row. rows ++ row ∷ []) (option_and_then row_in (list_of d))

abbrev pub rows_of : Data → Option (List PlanRow)
rows_of = list_from take_row []

-- Messages, by the name that stands at `m`. Each has exactly its members.

-- an addressee that a trace doesn't carry
abbrev pub nobody : Addr
nobody = Server (record { index = 0; generation = 0 })

abbrev pub place_with : ServerId → ℕ → List Entry → Message
place_with from seg entries = record { from = Server from; to = nobody; body = body.Place seg 0 [] entries false }

abbrev pub place_of : Data → Option Message
place_of d = only place_members d (given3 place_with (field (codes "from") id_of d) (field (codes "seg") seg_of d)
    (field (codes "entries") entries_of d))

abbrev pub append_with : ServerId → ℕ → ℕ → List Entry → Message
append_with from seg offset entries =
    record { from = Server from; to = nobody; body = body.Append seg offset entries }

abbrev pub append_of : Data → Option Message
append_of d = only append_members d (given4 append_with (field (codes "from") id_of d) (field (codes "seg") seg_of d)
    (field (codes "offset") number_of d) (field (codes "entries") entries_of d))

abbrev pub ok_with : ServerId → ℕ → ℕ → ℕ → ℕ → ℕ → ℕ → Message
ok_with from seg offset term table key version =
    record { from = Server from; to = Outside; body = body.WriteOk seg offset term table key version }

abbrev pub ok_of : Data → Option Message
ok_of d = only ok_members d (given7 ok_with
    (field (codes "from") id_of d) (field (codes "seg") seg_of d) (field (codes "offset") number_of d)
    (field (codes "term") number_of d) (field (codes "table") table_of d) (field (codes "key") key_of d)
    (field (codes "version") key_of d))

abbrev pub plan_with : ℕ → ServerId → List PlanRow → Message
plan_with attempt master rows =
    record { from = Coordinator; to = nobody; body = body.Plan 0 attempt master rows [] }

abbrev pub plan_of : Data → Option Message
plan_of d = only plan_members d (given3 plan_with
    (field (codes "attempt") number_of d) (field (codes "of") id_of d) (field (codes "rows") rows_of d))

abbrev pub own_with : ServerId → ℕ → ℕ → ℕ → ℕ → ℕ → ℕ → Message
own_with to table lo hi term previous attempt =
    let range : KeyRange = record { table = table; lo = lo; hi = hi } in
    record { from = Coordinator; to = Server to; body = body.Own range term previous attempt }

abbrev pub own_of : Data → Option Message
own_of d = only own_members d (given7 own_with
    (field (codes "to") id_of d) (field (codes "table") table_of d) (field (codes "lo") key_of d)
    (field (codes "hi") key_of d) (field (codes "term") number_of d) (field (codes "previous") number_of d)
    (field (codes "attempt") number_of d))

abbrev pub message_name : Data → Option MessageName
message_name d = option_and_then message_named (as_str d)

abbrev pub message_by : MessageName → Data → Option Message
message_by name.Place d = place_of d
message_by name.Append d = append_of d
message_by name.Ok d = ok_of d
message_by name.Plan d = plan_of d
message_by name.Own d = own_of d

unfoldable pub message_of : Data → Option Message
message_of d = option_and_then (λ name. message_by name d) (field (codes "m") message_name d)

-- The trace, or the place that is wrong

-- an object with no other members than a trace's, which says that the format is the first
abbrev pub is_trace : Data → Bool
is_trace d = has_only trace_members d && is_some (field (codes "format") (whole 1 1) d)

-- what is said of each message, of which the first has place 2; the least that is wrong counts
abbrev pub listed_messages : (Data → Option Message) → Option (List Data) → Result (List Message) ℕ
listed_messages said (Some ds) = all_said said 2 ds
listed_messages said None = Err 1

abbrev pub trace_of : (Data → Option Message) → Data → Result (List Message) ℕ
trace_of said d = if is_trace d then listed_messages said (field (codes "messages") list_of d) else Err 1

abbrev pub of_value : (Data → Option Message) → Option Data → Result (List Message) ℕ
of_value said None = Err 0
of_value said (Some d) = trace_of said d

-- a text, by the value that it is
abbrev pub of_text : (Data → Option Message) → List ℕ → Result (List Message) ℕ
of_text said text = of_value said (read text)

-- what the bytes say
abbrev pub reading : List ℕ → Result (List Message) ℕ
reading bytes = of_value message_of (value_in bytes)
