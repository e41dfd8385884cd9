use Rattle.std.proofs.Common.{◌≡◌, take, length}
use Rattle.rc_model.specs.Master.{ids_of}
use Rattle.rc_config.specs.declared.config.TheConstants.{MAX_MEMBERS}
use Rattle.rc_config.proofs.ids.MemberIds.of.Given as goal

-- the ids so far are there
abbrev pub invariant-loop-place : goal.invariant-loop-place
invariant-loop-place l = (length l.slots ≡ MAX_MEMBERS) × (take l.place l.slots ≡ ids_of (take l.place l.members))
