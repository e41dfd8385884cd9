-- What the members of a trace say, a member at a time, and a message at a time.
use Rattle.std.specs.Prelude.{false, ◌&&◌, is_some, if◌then◌else◌, List, ℕ, [], Option, Some, None, codes}
use Rattle.std.specs.Str.{bytes_eq}
use Rattle.rc_types.specs.declared.messages.Message.{Message}
use Rattle.serde_json.specs.Data.{Data}
use Rattle.rc_traces.specs.declared.whole.TopName.{TopName}
use Rattle.rc_traces.specs.declared.whole.TopName.TheVariants.{Format, Messages}
use Rattle.rc_traces.specs.declared.whole.Top.{Top}
use Rattle.rc_reading.specs.Values.{has_only, field, whole, list_from}
use Rattle.rc_traces.specs.declared.listed.Listed.{Listed}
use Rattle.rc_traces.specs.declared.listed.Listed.TheVariants.{Coded, Wrong}
use Rattle.rc_traces.specs.Codes.{codes_of}
use Rattle.rc_traces.specs.Listed.{takes_listed}
use Rattle.rc_traces.specs.Names.{trace_members}

abbrev pub messages_list : (Data → Option Message) → Data → Option Listed
messages_list said = list_from (takes_listed said) (Coded (codes_of []))

abbrev pub top_named : List ℕ → Option TopName
top_named text =
    if bytes_eq text (codes "format") then Some Format
    else (if bytes_eq text (codes "messages") then Some Messages
    else None)

-- one more member was read
abbrev pub top_noted : {R : Type 0} → (Data → Option Message) → Option TopName → Data → Top R → Top R
top_noted said None d top = record top { only = false }
top_noted said (Some Format) d top = record top { format = whole 1 1 d }
top_noted said (Some Messages) d top = record top { messages = messages_list said d }

-- what all members of an object say
abbrev pub top_of : {R : Type 0} → (Data → Option Message) → Data → Top R
top_of said d = record {
  only = has_only trace_members d;
  format = field (codes "format") (whole 1 1) d;
  messages = field (codes "messages") (messages_list said) d;
  kept_by = record {};
}

abbrev pub messages_in : Option Listed → Listed
messages_in (Some messages) = messages
messages_in None = Wrong 1

-- the messages that the members say, or the place that is wrong
abbrev pub trace_by : {R : Type 0} → Top R → Listed
trace_by top = if top.only && is_some top.format then messages_in top.messages else Wrong 1
