use Rattle.std.proofs.Common.{inr, length, subst, ap, ◌∙◌, arith}
use Rattle.std.specs.Prelude.{Err}
use Rattle.std.proofs.lemmas.Result.{err_from_is_err_and}
use Rattle.rc_wire.specs.Ends.{CannotGoOn}
use Rattle.rc_wire.proofs.Stuck.{bad-at}
use Rattle.rc_wire.specs.Runs.{Runs, works_for}
use Rattle.rc_wire.proofs.Turning.{grows-through, grows-same, progress-begins}
use Rattle.rc_wire.proofs.Seating.{take-all}
use Rattle.rc_wire.proofs.seats.turns.Goals as goal

pub loop-init : goal.loop-init
loop-init g c = record {
  within = omega arith;
  kept = progress-begins g.N.Naming.wire.setup c.args.seat.now c.args.steps.now c.requires.idle;
  grows = grows-same c.args.seat.now;
}

pub loop-preserved : goal.loop-preserved
loop-preserved g c = record {
  within = c.in_ok-done.ensures.within;
  kept = c.in_ok-done.ensures.ok c.args.seat.now c.loop.invariant.kept;
  grows = grows-through c.args.seat.now c.loop.seat c.obey.new.seat c.loop.invariant.grows c.in_ok-done.ensures.grows;
}

pub returns-clause-ok : goal.returns-clause-ok
returns-clause-ok g c =
    let setup = g.N.Naming.wire.setup in
    let start = c.args.seat.now in
    let steps = c.args.steps.now in
    let done = c.in_ok-do_until.ensures.ok start c.loop.from c.loop.invariant.kept in
    subst (λ l. Runs setup start (works_for start.name l) c.deliver_rest.new.seat) (take-all steps)
    (c.in_ok-deliver_rest.ensures.all start steps (length steps) done)

pub returns-in_err-done-clause-grows : goal.returns-in_err-done-clause-grows
returns-in_err-done-clause-grows g c =
    grows-through c.args.seat.now c.loop.seat c.obey.new.seat c.loop.invariant.grows c.obey.ensures.grows

pub returns-in_err-do_until-clause-grows : goal.returns-in_err-do_until-clause-grows
returns-in_err-do_until-clause-grows g c =
    grows-through c.args.seat.now c.loop.seat c.do_until.new.seat c.loop.invariant.grows c.do_until.ensures.grows

pub returns-in_err-deliver_rest-clause-grows : goal.returns-in_err-deliver_rest-clause-grows
returns-in_err-deliver_rest-clause-grows g c =
    grows-through c.args.seat.now c.do_until.new.seat c.deliver_rest.new.seat
    (grows-through c.args.seat.now c.loop.seat c.do_until.new.seat c.loop.invariant.grows c.do_until.ensures.grows)
    c.deliver_rest.ensures.grows

pub returns-clause-grows : goal.returns-clause-grows
returns-clause-grows g c =
    grows-through c.args.seat.now c.do_until.new.seat c.deliver_rest.new.seat
    (grows-through c.args.seat.now c.loop.seat c.do_until.new.seat c.loop.invariant.grows c.do_until.ensures.grows)
    c.deliver_rest.ensures.grows

pub returns-in_err-done-clause-bad : goal.returns-in_err-done-clause-bad
returns-in_err-done-clause-bad g c =
    let start = c.args.seat.now in
    let p = err_from_is_err_and c.from_residual.result c.from_residual.ensures.1 in
    bad-at (CannotGoOn g.N.Naming.wire.setup start c.args.steps.now c.obey.new.seat) c.from_residual.result
    c.in_err-done.field-0.0 (p.1 ∙ ap Err p.2) (λ bad. c.in_err-done.ensures.bad bad start c.loop.invariant.kept)

pub returns-in_err-do_until-clause-bad : goal.returns-in_err-do_until-clause-bad
returns-in_err-do_until-clause-bad g c =
    let start = c.args.seat.now in
    let p = err_from_is_err_and c.from_residual-in_err-do_until.result c.from_residual-in_err-do_until.ensures.1 in
    bad-at (CannotGoOn g.N.Naming.wire.setup start c.args.steps.now c.do_until.new.seat) c.from_residual-in_err-do_until.result
    c.in_err-do_until.field-0.0 (p.1 ∙ ap Err p.2)
    (λ bad. c.in_err-do_until.ensures.bad bad start c.loop.from c.loop.invariant.kept)

pub returns-in_err-deliver_rest-clause-bad : goal.returns-in_err-deliver_rest-clause-bad
returns-in_err-deliver_rest-clause-bad g c =
    let start = c.args.seat.now in
    let p = err_from_is_err_and c.from_residual-in_err-deliver_rest.result c.from_residual-in_err-deliver_rest.ensures.1 in
    bad-at (CannotGoOn g.N.Naming.wire.setup start c.args.steps.now c.deliver_rest.new.seat) c.from_residual-in_err-deliver_rest.result
    c.in_err-deliver_rest.field-0.0 (p.1 ∙ ap Err p.2) (λ bad. inr (c.in_err-deliver_rest.ensures.bad bad))
