use Rattle.std.proofs.Common.{◌≡◌, ◌++◌, take, drop, map}
use Rattle.rc_model.specs.Config.{told_if_heard}
use Rattle.rc_config.proofs.members.note_told.Given as goal

-- noted of the members so far, and the others are as they were
abbrev pub invariant-loop-member : goal.invariant-loop-member
invariant-loop-member l = l.members ≡ map (told_if_heard l.from l.len l.closed) (take l.member-index l.fn.members) ++
    drop l.member-index l.fn.members
