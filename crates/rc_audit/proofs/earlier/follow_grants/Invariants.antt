use Rattle.std.proofs.Common.{take}
use Rattle.rc_audit.specs.Earlier.{Follows}
use Rattle.rc_audit.proofs.earlier.follow_grants.Given as goal

-- the grants so far
abbrev pub invariant-loop-grant : goal.invariant-loop-grant
invariant-loop-grant l = Follows l.table l.key (take l.grant-index l.grants) l.initial.before l.before
    l.initial.waiting.items l.waiting.items
