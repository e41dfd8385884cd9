use Rattle.std.proofs.Common.{◌≡◌, ◌≤◌, length, take}
use Rattle.rc_model.specs.World.{replay}
use Rattle.rc_world.specs.Happened.{replayed}
use Rattle.rc_runs.specs.Stops.{breaches_of}
use Rattle.rc_runs.proofs.stopping.cut_each.Given as goal

-- the run of the events so far, and the breaches after each of them, of which there are none
abbrev pub invariant-loop-last : goal.invariant-loop-last
invariant-loop-last l = record {
  taken : replayed l.run ≡ replay l.setup (take l.last l.events);
  few : length l.run.events ≤ l.last;
  so_far : l.breaches ≡ breaches_of l.setup l.hosts l.events l.last;
  none : l.breaches ≡ 0;
}
