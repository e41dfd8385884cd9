use Rattle.std.proofs.Common.{◌≡◌, arith}
use Rattle.rc_wire.proofs.Listing.{starts-more, created-after, asks-more, workload-after}
use Rattle.rc_wire.proofs.workload.steps.Goals as goal

pub loop-host-init : goal.loop-host-init
loop-host-init c = c.new-steps.ensures.items

pub loop-host-preserved : goal.loop-host-preserved
loop-host-preserved c =
    starts-more c.loop-host.host c.loop-host.steps.items c.add.new.steps.items c.new-kept.result c.loop-host.invariant c.new-kept.ensures
    c.in_ok-add.ensures

pub loop-key-init : goal.loop-key-init
loop-key-init c =
    let last : c.loop-host.host ≡ c.args.hosts = omega (arith, c.loop-host.auto.host-end, c.loop-host-test.false) in
    created-after c.args.hosts c.loop-host.host c.loop-host.steps.items c.settle.new.steps.items c.add-2.new.steps.items
    c.settle-2.new.steps.items c.loop-host.invariant last c.in_ok-settle.ensures c.in_ok-add-2.ensures c.in_ok-settle-2.ensures

pub loop-key-preserved : goal.loop-key-preserved
loop-key-preserved c =
    asks-more c.args.hosts c.loop-key.key c.from.result c.loop-key.steps.items c.add-in-loop-key.new.steps.items c.in_ok-write.write
    c.loop-key.invariant c.in_ok-write.ensures c.from.ensures c.in_ok-add-3.ensures

pub returns : goal.returns
returns c =
    let last : c.loop-key.key ≡ c.args.writes = omega (arith, c.loop-key.auto.key-end, c.loop-key-test.false) in
    workload-after c.args.hosts c.args.writes c.loop-key.key c.loop-key.steps.items c.settle-3.new.steps.items c.add-3.new.steps.items
    c.settle-4.new.steps.items c.add-4.new.steps.items c.settle-5.new.steps.items c.loop-key.invariant last c.in_ok-settle-3.ensures
    c.in_ok-add-4.ensures c.in_ok-settle-4.ensures c.in_ok-add-5.ensures c.in_ok-settle-5.ensures
