use Rattle.std.proofs.Common.{◌≡◌, drop}
use Rattle.rc_model.specs.Recovered.{accepted}
use Rattle.rc_audit.proofs.has_recovery.Given as goal

-- no message so far accepts a recovery
abbrev pub invariant-loop-message : goal.invariant-loop-message
invariant-loop-message l = accepted l.messages ≡ accepted (drop l.message-index l.messages)
