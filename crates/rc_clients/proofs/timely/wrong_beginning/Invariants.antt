use Rattle.std.proofs.Common.{ℕ, ◌<◌}
use Rattle.rc_clients.specs.Evidence.{IsBegunAt}
use Rattle.rc_clients.proofs.timely.wrong_beginning.Given as goal

-- none was wrong so far
abbrev pub invariant-loop-moment : goal.invariant-loop-moment
invariant-loop-moment l = (i : ℕ) → i < l.moment → IsBegunAt l.history i
