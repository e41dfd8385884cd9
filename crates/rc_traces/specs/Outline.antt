-- A trace without the entries that its messages carry.
use Rattle.std.specs.Prelude.{ℕ, List, [], map, Option, option_map, Result, Ok, Err}
use Rattle.rc_types.specs.declared.messages.Message.{Message}
use Rattle.rc_types.specs.declared.messages.Body.{Body}
use Rattle.rc_types.specs.declared.messages.Body.TheVariants.{Place, Append}
use Rattle.serde_json.specs.Data.{Data}
use Rattle.rc_traces.specs.Trace.{message_of}

abbrev pub no_entries : Body → Body
no_entries (Place seg epoch digest entries closed) = Place seg epoch digest [] closed
no_entries (Append seg offset entries) = Append seg offset []
no_entries body = body

abbrev pub without_entries : Message → Message
without_entries message = record message { body = no_entries message.body }

abbrev pub outline_of : Data → Option Message
outline_of d = option_map without_entries (message_of d)

-- the outline of what was read
abbrev pub outlined : Result (List Message) ℕ → Result (List Message) ℕ
outlined (Ok messages) = Ok (map without_entries messages)
outlined (Err place) = Err place
