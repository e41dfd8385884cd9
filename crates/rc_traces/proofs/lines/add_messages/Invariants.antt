use Rattle.std.proofs.Common.{◌≡◌, ◌++◌, string_bytes, drop}
use Rattle.rc_model.specs.Report.{message_lines}
use Rattle.rc_traces.proofs.lines.add_messages.Given as goal

-- what is added so far, and what the messages to come add
abbrev pub invariant-loop-message : goal.invariant-loop-message
invariant-loop-message l =
    string_bytes l.text ++ message_lines (drop l.message-index l.messages) ≡ string_bytes l.initial.text ++ message_lines l.messages
