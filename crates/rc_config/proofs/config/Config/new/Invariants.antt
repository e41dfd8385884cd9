use Rattle.std.proofs.Common.{◌≡◌, take, map, length}
use Rattle.rc_model.specs.Config.{new_member}
use Rattle.rc_config.specs.declared.config.TheConstants.{MAX_MEMBERS}
use Rattle.rc_config.proofs.config.Config.new.Given as goal

-- the members so far are there
abbrev pub invariant-loop-place : goal.invariant-loop-place
invariant-loop-place l = (length l.slots ≡ MAX_MEMBERS) × (take l.place l.slots ≡ map new_member (take l.place l.ids))
