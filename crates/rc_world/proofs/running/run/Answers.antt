use Rattle.std.proofs.Common.{◌<◌, ◌≤◌, Err, length, arith, ap, subst, ◌∙◌}
use Rattle.std.proofs.lemmas.List.{take_all}
use Rattle.rc_world.specs.Happened.{with_events, AllHappen}
use Rattle.rc_world.proofs.RunOver.{run_more, run_stopped}
use Rattle.rc_world.proofs.running.run.Goals as goal

pub loop-index-preserved : goal.loop-index-preserved
loop-index-preserved g c =
    let h : c.loop-index.index < length c.args.events.now = omega arith in
    run_more c.args.world c.loop-index.world c.take.new.self c.args.events.now c.loop-index.index
    c.index-events-index.result h c.index-events-index.is
    c.loop-index.invariant.0 c.loop-index.invariant.1 c.in_default.ensures.possible c.in_default.ensures.ok

pub returns-in-Err-clause-bad : goal.returns-in-Err-clause-bad
returns-in-Err-clause-bad g c =
    let h : c.loop-index.index < length c.args.events.now = omega arith in
    run_stopped c.loop-index.world c.take.new.self c.args.events.now c.loop-index.index c.index-events-index.result
    c.in-Err.fault h c.index-events-index.is c.in-Err.ensures.err
    (λ is. c.in-Err.ensures.bad.0 (ap Err is)) (λ bars. cc (c.in-Err.ensures.bad.1 bars))

pub returns-clause-ok : goal.returns-clause-ok
returns-clause-ok g c =
    let all : length c.args.events.now ≤ c.loop-index.index = omega arith in
    c.loop-index.invariant.0 ∙ ap (with_events c.args.world) (take_all c.loop-index.index c.args.events.now all)

pub returns-clause-possible : goal.returns-clause-possible
returns-clause-possible g c =
    let all : length c.args.events.now ≤ c.loop-index.index = omega arith in
    subst (AllHappen c.args.world) (take_all c.loop-index.index c.args.events.now all) c.loop-index.invariant.1
