use Rattle.std.proofs.Common.{◌≡◌, ◌≤◌, ◌+◌, length, take}
use Rattle.rc_model.specs.World.{replay_from}
use Rattle.rc_world.specs.Happened.{replayed}
use Rattle.rc_runs.proofs.stopping.take_all.Given as goal

-- the events so far, of which each has happened or was passed over
abbrev pub invariant-loop-event : goal.invariant-loop-event
invariant-loop-event l = record {
  so_far : replayed l.run ≡ replay_from (replayed l.initial.run) (take l.event-index l.events);
  few : length l.run.events ≤ length l.initial.run.events + l.event-index;
}
