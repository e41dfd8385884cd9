use Rattle.std.proofs.Common.{◌≡◌, ◌++◌}
use Rattle.rc_world.specs.Stops.{stops_below}
use Rattle.rc_world.specs.WorldView.{hosts_in}
use Rattle.rc_world.proofs.nodes.Nodes.add_stops.Given as goal

-- the stops so far
abbrev pub invariant-loop-host : goal.invariant-loop-host
invariant-loop-host g l = l.events.items ≡ l.initial.events.items ++ stops_below (hosts_in l.self) l.host
