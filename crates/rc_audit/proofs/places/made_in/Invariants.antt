use Rattle.std.proofs.Common.{take}
use Rattle.rc_audit.specs.Places.{Indexes}
use Rattle.rc_audit.proofs.places.made_in.Given as goal

-- what the messages so far have sent is summed up
abbrev pub invariant-loop-message : goal.invariant-loop-message
invariant-loop-message l = Indexes l.made (take l.message-index l.messages)
