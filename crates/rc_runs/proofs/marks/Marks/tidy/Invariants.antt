use Rattle.std.proofs.Common.{◌≡◌, length}
use Rattle.rc_runs.specs.Lanes.{AreTidied}
use Rattle.rc_runs.proofs.marks.Marks.tidy.Given as goal

-- the lines so far are tidied
abbrev pub invariant-loop-place : goal.invariant-loop-place
invariant-loop-place l = record {
  marks : l.self.delivered.items ≡ l.initial.self.delivered.items;
  long : length l.self.lines.items ≡ length l.initial.self.lines.items;
  tidied : AreTidied l.initial.self.delivered.items l.initial.self.lines.items l.self.lines.items;
}
