use Rattle.std.proofs.Common.{◌≡◌, drop}
use Rattle.rc_model.specs.Model.{accepted, invented_of}
use Rattle.rc_audit.proofs.invented.invented_place.Given as goal

-- no recovery so far has an invented place
abbrev pub invariant-loop-message : goal.invariant-loop-message
invariant-loop-message l = invented_of l.evidence.messages.now (accepted l.evidence.messages.now) ≡ invented_of
    l.evidence.messages.now (accepted (drop l.message-index l.evidence.messages.now))
