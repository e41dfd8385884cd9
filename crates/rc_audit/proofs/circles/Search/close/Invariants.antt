use Rattle.std.proofs.Common.{length}
use Rattle.rc_audit.proofs.circles.Search.close.Given as goal

-- the terms that have no place yet
abbrev pub decreases-loop-one : goal.decreases-loop-one
decreases-loop-one l = length l.self.open.items
