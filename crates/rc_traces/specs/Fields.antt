-- What the members of a message say, a member at a time.
use Rattle.std.specs.Prelude.{ℕ, Bool, true, false, if◌then◌else◌, List, Option, Some, None, option_and_then, codes}
use Rattle.std.specs.Str.{bytes_eq}
use Rattle.rc_types.specs.declared.messages.Message.{Message}
use Rattle.serde_json.specs.Data.{Data}
use Rattle.rc_traces.specs.declared.fields.MemberName.{MemberName}
use Rattle.rc_traces.specs.declared.fields.MemberName.TheVariants as name
use Rattle.rc_traces.specs.declared.fields.Only.{Only}
use Rattle.rc_traces.specs.declared.fields.Fields.{Fields}
use Rattle.rc_traces.specs.declared.names.MessageName.{MessageName}
use Rattle.rc_traces.specs.declared.names.MessageName.TheVariants as message
use Rattle.rc_reading.specs.Values.{has_only, field, given3, given4, id_of, table_of, key_of}
use Rattle.rc_traces.specs.Names.{place_members, append_members, ok_members, plan_members, own_members}
use Rattle.rc_traces.specs.Values.{given7, seg_of, number_of}
use Rattle.rc_traces.specs.Trace.{entries_of, rows_of, message_name, place_with, append_with, ok_with, plan_with}
use Rattle.rc_traces.specs.Trace.{own_with}

abbrev pub member_named : List ℕ → Option MemberName
member_named text =
    if bytes_eq text (codes "m") then Some name.Name
    else (if bytes_eq text (codes "from") then Some name.From
    else (if bytes_eq text (codes "seg") then Some name.Seg
    else (if bytes_eq text (codes "offset") then Some name.Offset
    else (if bytes_eq text (codes "entries") then Some name.Entries
    else (if bytes_eq text (codes "term") then Some name.Term
    else (if bytes_eq text (codes "table") then Some name.Table
    else (if bytes_eq text (codes "key") then Some name.Key
    else (if bytes_eq text (codes "version") then Some name.Version
    else (if bytes_eq text (codes "attempt") then Some name.Attempt
    else (if bytes_eq text (codes "of") then Some name.Master
    else (if bytes_eq text (codes "rows") then Some name.Rows
    else (if bytes_eq text (codes "to") then Some name.To
    else (if bytes_eq text (codes "lo") then Some name.Lo
    else (if bytes_eq text (codes "hi") then Some name.Hi
    else (if bytes_eq text (codes "previous") then Some name.Previous
    else None)))))))))))))))

-- For each message whether it has all the members that have come

abbrev pub all_messages : Only
all_messages = record { place = true; append = true; ok = true; plan = true; own = true }

abbrev pub no_message : Only
no_message = record { place = false; append = false; ok = false; plan = false; own = false }

abbrev pub narrowed : Option MemberName → Only → Only
narrowed None only = no_message
narrowed (Some name.Name) only = only
narrowed (Some name.From) only = record no_message { place = only.place; append = only.append; ok = only.ok }
narrowed (Some name.Seg) only = record no_message { place = only.place; append = only.append; ok = only.ok }
narrowed (Some name.Offset) only = record no_message { append = only.append; ok = only.ok }
narrowed (Some name.Entries) only = record no_message { place = only.place; append = only.append }
narrowed (Some name.Term) only = record no_message { ok = only.ok; own = only.own }
narrowed (Some name.Table) only = record no_message { ok = only.ok; own = only.own }
narrowed (Some name.Key) only = record no_message { ok = only.ok }
narrowed (Some name.Version) only = record no_message { ok = only.ok }
narrowed (Some name.Attempt) only = record no_message { plan = only.plan; own = only.own }
narrowed (Some name.Master) only = record no_message { plan = only.plan }
narrowed (Some name.Rows) only = record no_message { plan = only.plan }
narrowed (Some name.To) only = record no_message { own = only.own }
narrowed (Some name.Lo) only = record no_message { own = only.own }
narrowed (Some name.Hi) only = record no_message { own = only.own }
narrowed (Some name.Previous) only = record no_message { own = only.own }

-- one more member was read
abbrev pub said : Option MemberName → Data → Fields → Fields
said None d fields = fields
said (Some name.Name) d fields = record fields { name = message_name d }
said (Some name.From) d fields = record fields { from = id_of d }
said (Some name.Seg) d fields = record fields { seg = seg_of d }
said (Some name.Offset) d fields = record fields { offset = number_of d }
said (Some name.Entries) d fields = record fields { entries = entries_of d }
said (Some name.Term) d fields = record fields { term = number_of d }
said (Some name.Table) d fields = record fields { table = table_of d }
said (Some name.Key) d fields = record fields { key = key_of d }
said (Some name.Version) d fields = record fields { version = key_of d }
said (Some name.Attempt) d fields = record fields { attempt = number_of d }
said (Some name.Master) d fields = record fields { master = id_of d }
said (Some name.Rows) d fields = record fields { rows = rows_of d }
said (Some name.To) d fields = record fields { to = id_of d }
said (Some name.Lo) d fields = record fields { lo = key_of d }
said (Some name.Hi) d fields = record fields { hi = key_of d }
said (Some name.Previous) d fields = record fields { previous = number_of d }

abbrev pub noted : Option MemberName → Data → Fields → Fields
noted name d fields = said name d (record fields { only = narrowed name fields.only })

-- what all members of an object say
abbrev pub only_of : Data → Only
only_of d = record {
  place = has_only place_members d;
  append = has_only append_members d;
  ok = has_only ok_members d;
  plan = has_only plan_members d;
  own = has_only own_members d;
}

abbrev pub fields_of : Data → Fields
fields_of d = record {
  only = only_of d;
  name = field (codes "m") message_name d;
  from = field (codes "from") id_of d;
  seg = field (codes "seg") seg_of d;
  offset = field (codes "offset") number_of d;
  entries = field (codes "entries") entries_of d;
  term = field (codes "term") number_of d;
  table = field (codes "table") table_of d;
  key = field (codes "key") key_of d;
  version = field (codes "version") key_of d;
  attempt = field (codes "attempt") number_of d;
  master = field (codes "of") id_of d;
  rows = field (codes "rows") rows_of d;
  to = field (codes "to") id_of d;
  lo = field (codes "lo") key_of d;
  hi = field (codes "hi") key_of d;
  previous = field (codes "previous") number_of d;
}

-- whether this message has all the members that have come
abbrev pub allowed : MessageName → Only → Bool
allowed message.Place only = only.place
allowed message.Append only = only.append
allowed message.Ok only = only.ok
allowed message.Plan only = only.plan
allowed message.Own only = only.own

-- the message of this name, where the members that it needs say something
abbrev pub needed : MessageName → Fields → Option Message
needed message.Place fields = given3 place_with fields.from fields.seg fields.entries
needed message.Append fields = given4 append_with fields.from fields.seg fields.offset fields.entries
needed message.Ok fields = given7 ok_with fields.from fields.seg fields.offset fields.term fields.table fields.key
    fields.version
needed message.Plan fields = given3 plan_with fields.attempt fields.master fields.rows
needed message.Own fields = given7 own_with fields.to fields.table fields.lo fields.hi fields.term fields.previous
    fields.attempt

-- the message that the members say
abbrev pub message_from : MessageName → Fields → Option Message
message_from name fields = if allowed name fields.only then needed name fields else None

abbrev pub message_in : Fields → Option Message
message_in fields = option_and_then (λ name. message_from name fields) fields.name
