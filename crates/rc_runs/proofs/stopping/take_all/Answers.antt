use Rattle.std.proofs.Common.{arith}
use Rattle.rc_world.specs.Happened.{replayed}
use Rattle.rc_runs.proofs.CutWorlds.{replay_more}
use Rattle.rc_runs.proofs.stopping.take_all.Goals as goal

pub loop-event-preserved : goal.loop-event-preserved
loop-event-preserved c = record {
  so_far =
      replay_more (replayed c.args.run.now) (replayed c.loop-event.run) (replayed c.take.new.run) c.args.events.now c.loop-event.event-index
      c.event-item.result c.loop-event-test.true c.event-item.is c.loop-event.invariant.so_far c.in_ok-take.ensures.ok;
  few = omega (arith, c.in_ok-take.ensures.more, c.loop-event.invariant.few);
}
