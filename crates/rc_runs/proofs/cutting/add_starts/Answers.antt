use Rattle.rc_world.specs.Happened.{replayed}
use Rattle.rc_runs.specs.Stops.{start_of}
use Rattle.rc_runs.proofs.Gathering.{begins, goes_on}
use Rattle.rc_runs.proofs.cutting.add_starts.Goals as goal

pub loop-host-init : goal.loop-host-init
loop-host-init c = begins (start_of c.args.keeping (replayed c.args.world.now)) c.args.scene.now.items

pub loop-host-preserved : goal.loop-host-preserved
loop-host-preserved c =
    goes_on (start_of c.args.keeping (replayed c.args.world.now)) c.loop-host.host c.args.scene.now.items
    c.loop-host.scene.items c.add_start.new.scene.items
    c.loop-host.invariant c.in_ok-add_start.ensures
