use Rattle.std.proofs.Common.{◌≡◌, ◌++◌, take, drop, map}
use Rattle.rc_model.specs.Config.{lost_if_crashed}
use Rattle.rc_config.proofs.members.mark_lost.Given as goal

-- the members so far are marked, the others are as they were
abbrev pub invariant-loop-member : goal.invariant-loop-member
invariant-loop-member l = l.members ≡ map (lost_if_crashed l.servers) (take l.member-index l.fn.members) ++ drop l.member-index l.fn.members
