use Rattle.std.proofs.Common.{ℕ, take}
use Rattle.rc_runs.specs.Lanes.{AllAscend, InLanes, IsLeast}
use Rattle.rc_runs.specs.Waiting.{is_due_by}
use Rattle.rc_runs.proofs.marks.Marks.next_noted.Given as goal

-- the least of those in the lines so far
abbrev pub invariant-loop-place : goal.invariant-loop-place
invariant-loop-place l = (high : ℕ) → AllAscend high l.self.lines.items →
    IsLeast (is_due_by l.passing l.self.delivered.items l.sent) l.from
    (λ n. InLanes l.passing n (take l.place l.self.lines.items)) l.least
