use Rattle.std.proofs.Common.{sym, subst}
use Rattle.rc_wire.specs.Names.{WireName}
use Rattle.rc_wire.specs.Worked.{AllHaveWorked, SomeWasStuck}
use Rattle.rc_wire.proofs.Fetching.{opened-idle}
use Rattle.rc_wire.proofs.Works.{works-done, was-stuck}
use Rattle.rc_wire.proofs.world.run.Goals as goal

pub run_nodes-requires-clause-idle : goal.run_nodes-requires-clause-idle
run_nodes-requires-clause-idle g c κs within =
    opened-idle g.N.Naming.wire.nodes c.in_ok-wire.seats.items c.in_ok-wire.ensures

pub returns-in_ok-closed-in-Ok-clause-works : goal.returns-in_ok-closed-in-Ok-clause-works
returns-in_ok-closed-in-Ok-clause-works g c = λ done.
    let events = c.in_ok-closed-in-Ok.field-0.events in
    let wire = g.N.Naming.wire in
    subst (λ (w : WireName). AllHaveWorked w.setup events c.args.steps.now w.nodes) (sym c.requires.name)
    (works-done wire.setup events c.args.steps.now wire.nodes c.in_ok-wire.seats.items c.in-Ok.seats.items c.in_ok-wire.ensures
    c.in-Ok.ensures.ok c.in_ok-closed-in-Ok.ensures.seats)

pub returns-in_ok-closed-in-Err-default-BadEvent-clause-stuck : goal.returns-in_ok-closed-in-Err-default-BadEvent-clause-stuck
returns-in_ok-closed-in-Err-default-BadEvent-clause-stuck g c = λ failed.
    let events = c.in_ok-closed-in-Err-default-BadEvent.field-0.events in
    let wire = g.N.Naming.wire in
    subst (λ (w : WireName). SomeWasStuck w.setup events c.args.steps.now w.nodes) (sym c.requires.name)
    (was-stuck wire.setup events c.args.steps.now wire.nodes c.in_ok-wire.seats.items
    c.in-Err-default-BadEvent.seats.items c.in_ok-wire.ensures
    (c.in-Err-default-BadEvent.ensures.bad c.in-Err-default-BadEvent.field-0-1-is)
    c.in_ok-closed-in-Err-default-BadEvent.ensures.seats
    c.in_ok-closed-in-Err-default-BadEvent.ensures.whole)
