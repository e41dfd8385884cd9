use Rattle.std.proofs.Common.{◌≡◌, ◌++◌, map, drop}
use Rattle.serde_json.specs.View.{view}
use Rattle.rc_traces.specs.Written.{messages_data}
use Rattle.rc_traces.proofs.writing.message_values.Given as goal

-- the values so far, and those to come
abbrev pub invariant-loop-message : goal.invariant-loop-message
invariant-loop-message l = map view l.values.items ++ messages_data (drop l.message-index l.messages) ≡ messages_data l.messages
