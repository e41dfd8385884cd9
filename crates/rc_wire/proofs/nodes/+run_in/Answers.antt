use Rattle.std.proofs.Common.{rules}
use Rattle.rc_wire.specs.Ends.{Ends}
use Rattle.rc_wire.proofs.Stuck.{stuck-back, told-back}
use Rattle.rc_wire.proofs.Seating.{grown-back, run-back, idle-rest, idle-popped}
use Rattle.rc_wire.proofs.nodes.+run_in.Goals as goal
use Rattle.rc_wire.proofs.nodes.+run_in.Goals.{in-Ok, in-Err}

pub start-started-requires-clause-idle : goal.start-started-requires-clause-idle
start-started-requires-clause-idle g t c κs within =
    idle-popped c.args.seats.now.items c.pop.new.self.items c.pop.result c.in-Some.seat c.pop.ensures.items c.in-Some.is c.requires.idle

pub run_in-others-requires-clause-idle : goal.run_in-others-requires-clause-idle
run_in-others-requires-clause-idle g t c κs within =
    idle-rest c.args.seats.now.items c.pop.new.self.items c.pop.result c.in-Some.seat c.pop.ensures.items c.in-Some.is c.requires.idle

pub returns-clause-grows : goal.returns-clause-grows
returns-clause-grows g t c =
    let ends : Ends g.N.Naming.wire.setup c.in-Some.seat c.args.steps.now c.match-started.seat.1 c.match-started.seat.0 =
    elim c.match-started.branch [ in-Ok w ↦ search rules | in-Err w ↦ search rules ] in
    grown-back g.N.Naming.wire.setup c.args.steps.now c.args.seats.now.items c.pop.new.self.items c.run_in-others.new.seats.items
    c.push_reserved.new.self.items c.pop.result c.in-Some.seat c.match-started.seat.0 c.match-started.seat.1 c.pop.ensures.items
    c.in-Some.is c.run_in-others.ensures.grows ends c.push_reserved.ensures.items

pub returns-clause-ok : goal.returns-clause-ok
returns-clause-ok g t c =
    let ends : Ends g.N.Naming.wire.setup c.in-Some.seat c.args.steps.now c.match-started.seat.1 c.match-started.seat.0 =
    elim c.match-started.branch [ in-Ok w ↦ search rules | in-Err w ↦ search rules ] in
    run-back g.N.Naming.wire.setup c.args.steps.now c.args.seats.now.items c.pop.new.self.items c.run_in-others.new.seats.items
    c.push_reserved.new.self.items c.pop.result c.in-Some.seat c.match-started.seat.0 c.run_in-others.result c.match-started.seat.1
    c.joined.result
    c.pop.ensures.items c.in-Some.is c.run_in-others.ensures.ok ends c.push_reserved.ensures.items c.joined.ensures

pub returns-clause-fault : goal.returns-clause-fault
returns-clause-fault g t c =
    let ends : Ends g.N.Naming.wire.setup c.in-Some.seat c.args.steps.now c.match-started.seat.1 c.match-started.seat.0 =
    elim c.match-started.branch [ in-Ok w ↦ search rules | in-Err w ↦ search rules ] in
    told-back g.N.Naming.wire.setup c.in-Some.seat c.args.steps.now c.match-started.seat.0 c.run_in-others.result
    c.match-started.seat.1 c.joined.result c.run_in-others.ensures.fault ends c.joined.ensures

pub returns-clause-bad : goal.returns-clause-bad
returns-clause-bad g t c =
    let ends : Ends g.N.Naming.wire.setup c.in-Some.seat c.args.steps.now c.match-started.seat.1 c.match-started.seat.0 =
    elim c.match-started.branch [ in-Ok w ↦ search rules | in-Err w ↦ search rules ] in
    stuck-back g.N.Naming.wire.setup c.args.steps.now c.args.seats.now.items c.pop.new.self.items c.run_in-others.new.seats.items
    c.push_reserved.new.self.items c.pop.result c.in-Some.seat c.match-started.seat.0 c.run_in-others.result c.match-started.seat.1
    c.joined.result c.pop.ensures.items c.in-Some.is c.run_in-others.ensures.grows c.run_in-others.ensures.bad ends
    c.push_reserved.ensures.items c.joined.ensures
