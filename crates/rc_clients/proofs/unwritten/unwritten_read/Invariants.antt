use Rattle.std.proofs.Common.{ℕ, ◌<◌}
use Rattle.rc_clients.specs.Evidence.{IsWrittenAt}
use Rattle.rc_clients.proofs.unwritten.unwritten_read.Given as goal

-- all were written so far
abbrev pub invariant-loop-moment : goal.invariant-loop-moment
invariant-loop-moment l = (i : ℕ) → i < l.moment → IsWrittenAt l.history i
