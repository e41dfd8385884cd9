use Rattle.std.proofs.Common.{◌≡◌, ◌++◌}
use Rattle.rc_world.specs.Happened.{replayed}
use Rattle.rc_runs.specs.Stops.{gathered, stop_of}
use Rattle.rc_runs.proofs.cutting.add_stops.Given as goal

-- the hosts so far
abbrev pub invariant-loop-host : goal.invariant-loop-host
invariant-loop-host l = l.scene.items ≡ l.initial.scene.items ++ gathered (stop_of (replayed l.world)) l.host
