use Rattle.std.proofs.Common.{ℕ, ◌<◌}
use Rattle.rc_clients.specs.Evidence.{IsTimelyAt}
use Rattle.rc_clients.proofs.timely.late_operation.Given as goal

-- none was late so far
abbrev pub invariant-loop-moment : goal.invariant-loop-moment
invariant-loop-moment l = (i : ℕ) → i < l.moment → IsTimelyAt l.history i
