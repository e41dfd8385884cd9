use Rattle.std.proofs.Common.{arith}
use Rattle.rc_world.specs.Happened.{replayed}
use Rattle.rc_runs.proofs.Keepings.{start_alike_none, start_alike_more}
use Rattle.rc_runs.proofs.cutting.Keeping.keeps_all.Goals as goal

pub loop-host-init : goal.loop-host-init
loop-host-init c = start_alike_none c.args.self (replayed c.args.world.now)

pub loop-host-preserved : goal.loop-host-preserved
loop-host-preserved c =
    start_alike_more c.args.self (replayed c.args.world.now) c.loop-host.host c.in_ok-names.names.items c.of.result.items
    c.loop-host.invariant c.in_ok-names.ensures c.of.ensures
    (omega (arith, c.if-len-count.false, c.len.ensures, c.len-count.ensures))
