use Rattle.std.proofs.Common.{◌≡◌, ◌≤◌, ◌-◌, ℕ, length}
use Rattle.rc_runs.specs.Settling.{events_left, pass, settles}
use Rattle.rc_world.specs.Happened.{replayed}
use Rattle.rc_runs.proofs.runs.Run.settle.Given as goal

-- the pass so far, with room for its events
abbrev pub invariant-loop-number : goal.invariant-loop-number
invariant-loop-number g l = record {
  reached : (most : ℕ) → length l.self.events ≤ most
      → settles most l.passing (replayed l.fn.self) ≡ pass l.passing (events_left most (replayed l.self)) (replayed l.self) l.from;
  more : length l.fn.self.events ≤ length l.self.events;
}

-- each turn is an event
abbrev pub decreases-loop-number : goal.decreases-loop-number
decreases-loop-number g l = 200000 - length l.self.events
