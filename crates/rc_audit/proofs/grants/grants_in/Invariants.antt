use Rattle.std.proofs.Common.{take}
use Rattle.rc_audit.specs.Grants.{AreGrants}
use Rattle.rc_audit.proofs.grants.grants_in.Given as goal

-- the grants of the messages so far
abbrev pub invariant-loop-message : goal.invariant-loop-message
invariant-loop-message l = AreGrants l.grants (take l.message-index l.messages)
