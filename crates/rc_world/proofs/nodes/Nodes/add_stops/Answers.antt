use Rattle.rc_world.specs.WorldView.{hosts_in}
use Rattle.rc_world.proofs.StoppedHosts.{stops_begin, stops_more}
use Rattle.rc_world.proofs.nodes.Nodes.add_stops.Goals as goal

pub loop-host-init : goal.loop-host-init
loop-host-init g c = stops_begin (hosts_in c.args.self.now) c.args.events.now.items

pub loop-host-preserved : goal.loop-host-preserved
loop-host-preserved g c =
    stops_more (hosts_in c.args.self.now) c.loop-host.host c.args.events.now.items c.loop-host.events.items c.add_stop.new.events.items
    c.loop-host.invariant c.in_ok-add_stop.ensures
