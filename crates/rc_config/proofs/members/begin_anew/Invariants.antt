use Rattle.std.proofs.Common.{◌≡◌, ◌++◌, take, drop, map}
use Rattle.rc_model.specs.Config.{new_member}
use Rattle.rc_config.proofs.members.begin_anew.Given as goal

-- the members so far begin anew, the others are as they were
abbrev pub invariant-loop-member : goal.invariant-loop-member
invariant-loop-member l = l.members ≡ map (λ member. new_member member.id) (take l.member-index l.fn.members) ++
    drop l.member-index l.fn.members
