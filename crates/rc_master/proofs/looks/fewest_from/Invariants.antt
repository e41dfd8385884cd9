use Rattle.std.proofs.Common.{◌≡◌}
use Rattle.rc_config.specs.Lists.{segment_at}
use Rattle.rc_master.specs.Looks.{fewest_to}
use Rattle.rc_master.proofs.looks.fewest_from.Given as goal

-- how few among the segments so far
abbrev pub invariant-loop-before : goal.invariant-loop-before
invariant-loop-before l = l.fewest ≡ fewest_to (segment_at l.log.segments) l.before
