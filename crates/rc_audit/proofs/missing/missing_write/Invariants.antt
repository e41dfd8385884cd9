use Rattle.std.proofs.Common.{◌≡◌, drop}
use Rattle.rc_model.specs.Model.{accepted, missing_of}
use Rattle.rc_audit.specs.Clean.{AreClean}
use Rattle.rc_audit.proofs.missing.missing_write.Given as goal

-- no recovery so far misses a write
abbrev pub invariant-loop-message : goal.invariant-loop-message
invariant-loop-message l = record {
  clean : AreClean l.clean l.evidence.messages.now;
  so_far :
      missing_of l.evidence.messages.now (accepted l.evidence.messages.now) ≡ missing_of l.evidence.messages.now
      (accepted (drop l.message-index l.evidence.messages.now));
}
