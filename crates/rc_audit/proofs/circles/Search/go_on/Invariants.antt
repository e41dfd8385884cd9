use Rattle.std.proofs.Common.{length}
use Rattle.rc_audit.proofs.circles.Search.go_on.Given as goal

-- the heads that are left
abbrev pub decreases-loop-self : goal.decreases-loop-self
decreases-loop-self l = length l.self.heads.items
