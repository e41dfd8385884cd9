use Rattle.std.proofs.Common.{◌≡◌, ◌≤◌, ℕ, length, drop}
use Rattle.rc_runs.specs.Runs.{run_from}
use Rattle.rc_world.specs.Happened.{replayed}
use Rattle.rc_runs.proofs.runs.Run.play_all.Given as goal

-- the events so far, with room for those of the world
abbrev pub invariant-loop-place : goal.invariant-loop-place
invariant-loop-place g l = record {
  reached : (most : ℕ) → length l.self.events ≤ most
      → run_from most 0 (replayed l.fn.self) l.events ≡ run_from most l.place (replayed l.self) (drop l.place l.events);
  more : length l.fn.self.events ≤ length l.self.events;
}
