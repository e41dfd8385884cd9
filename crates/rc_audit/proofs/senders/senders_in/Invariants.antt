use Rattle.std.proofs.Common.{take}
use Rattle.rc_audit.specs.Senders.{AreSenders}
use Rattle.rc_audit.proofs.senders.senders_in.Given as goal

-- the table of the messages so far
abbrev pub invariant-loop-message : goal.invariant-loop-message
invariant-loop-message l = AreSenders l.senders (take l.message-index l.messages)
