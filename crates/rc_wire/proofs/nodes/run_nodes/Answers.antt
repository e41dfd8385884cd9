use Rattle.std.proofs.Common.{inl}
use Rattle.rc_wire.proofs.Stuck.{seated-not, unseated-not}
use Rattle.rc_wire.proofs.Seating.{grow-same}
use Rattle.rc_wire.proofs.nodes.run_nodes.Goals as goal

pub returns-in_default-clause-err : goal.returns-in_default-clause-err
returns-in_default-clause-err g c = grow-same c.args.seats.items

pub returns-then-not-all_seated-clause-err : goal.returns-then-not-all_seated-clause-err
returns-then-not-all_seated-clause-err g c = grow-same c.args.seats.items

pub returns-then-not-all_seated-clause-bad : goal.returns-then-not-all_seated-clause-bad
returns-then-not-all_seated-clause-bad g c = λ bad. inl
    (unseated-not c.args.seats.items c.as_slice.result.now c.args.steps.now c.all_seated.result c.as_slice.ensures.value
    c.all_seated.ensures c.if-not-all_seated.true)

pub returns-in_default-clause-unseated : goal.returns-in_default-clause-unseated
returns-in_default-clause-unseated g c = λ unseated. absurd
    (seated-not c.args.seats.items c.as_slice.result.now c.args.steps.now c.all_seated.result c.as_slice.ensures.value
    c.all_seated.ensures c.if-not-all_seated.false unseated)

pub returns-clause-unseated : goal.returns-clause-unseated
returns-clause-unseated g c = λ unseated. absurd
    (seated-not c.args.seats.items c.as_slice.result.now c.args.steps.now c.all_seated.result c.as_slice.ensures.value
    c.all_seated.ensures c.if-not-all_seated.false unseated)
