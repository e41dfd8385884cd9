use Rattle.std.proofs.Common.{◌≡◌, ◌+◌, length, take, refl, sym, ap, arith}
use Rattle.rc_model.specs.World.{opening}
use Rattle.rc_world.specs.Happened.{replayed}
use Rattle.rc_runs.proofs.Counting.{breaches_none, counted_more}
use Rattle.rc_runs.proofs.CutWorlds.{replay_more}
use Rattle.rc_runs.proofs.stopping.cut_each.Goals as goal

pub loop-last-init : goal.loop-last-init
loop-last-init c =
    let begun : length c.in_ok-run.run'.events ≡ 0 = ap (λ w. length w.events) c.in_ok-run.ensures in
    record {
      taken = ap replayed c.in_ok-run.ensures;
      few = omega (arith, begun);
      so_far = sym (breaches_none c.args.setup.now c.args.hosts c.args.events.now);
      none = refl;
    }

pub loop-last-preserved : goal.loop-last-preserved
loop-last-preserved c = record {
  taken =
      replay_more (opening c.args.setup.now) (replayed c.loop-last.run) (replayed c.take.new.run) c.args.events.now c.loop-last.last
      c.index-events-last.result c.loop-last-test.true c.index-events-last.is c.loop-last.invariant.taken c.in_ok-take.ensures.ok;
  few = omega (arith, c.loop-last.invariant.few, c.in_ok-take.ensures.more);
  so_far =
      counted_more c.args.setup.now c.args.hosts c.args.events.now (take (c.loop-last.last + 1) c.args.events.now) c.loop-last.last
      c.loop-last.breaches c.in_ok-breaches.field-0
      c.loop-last.invariant.so_far refl c.in_ok-breaches.ensures.ok;
  none = omega (arith, c.loop-last.invariant.none, c.in_ok-breaches.ensures.none);
}

pub breaches_after-requires-clause-taken : goal.breaches_after-requires-clause-taken
breaches_after-requires-clause-taken c =
    replay_more (opening c.args.setup.now) (replayed c.loop-last.run) (replayed c.take.new.run) c.args.events.now c.loop-last.last
    c.index-events-last.result c.loop-last-test.true c.index-events-last.is c.loop-last.invariant.taken c.in_ok-take.ensures.ok
