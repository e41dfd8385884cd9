use Rattle.std.proofs.Common.{◌≡◌, ℕ, subst, ap, ◌∙◌, arith}
use Rattle.std.specs.Prelude.{Err}
use Rattle.std.proofs.lemmas.Result.{err_from_is_err_and}
use Rattle.rc_wire.specs.SeatView.{SeatData}
use Rattle.rc_wire.specs.Ends.{CannotGoOn}
use Rattle.rc_wire.proofs.Stuck.{bad-at}
use Rattle.rc_wire.specs.Runs.{Progress}
use Rattle.rc_wire.proofs.Turning.{grows-same, grows-through}
use Rattle.rc_wire.proofs.turns.do_until.Goals as goal

pub loop-next-init : goal.loop-next-init
loop-next-init g c = record {
  kept = λ start from p. p;
  idle = c.requires.idle;
  grows = grows-same c.args.seat.now;
}

pub loop-next-preserved : goal.loop-next-preserved
loop-next-preserved g c = record {
  kept = λ start from p. c.in_ok-do_next.ensures.ok start from (c.loop-next.invariant.kept start from p);
  idle = c.in_ok-do_next.ensures.idle;
  grows = grows-through c.args.seat.now c.loop-next.seat c.do_next.new.seat c.loop-next.invariant.grows c.in_ok-do_next.ensures.grows;
}

pub returns-clause-ok : goal.returns-clause-ok
returns-clause-ok g c = λ start from p.
    let all : c.loop-next.next ≡ c.args.end =
    omega (arith, c.loop-next.auto.next-end, c.loop-next-test.false, c.requires.order) in
    subst (λ n. Progress g.N.Naming.wire.setup start c.args.steps.now n from c.loop-next.seat) all (c.loop-next.invariant.kept start from p)

pub returns-in_err-do_next-clause-grows : goal.returns-in_err-do_next-clause-grows
returns-in_err-do_next-clause-grows g c =
    grows-through c.args.seat.now c.loop-next.seat c.do_next.new.seat c.loop-next.invariant.grows c.do_next.ensures.grows

pub returns-clause-grows : goal.returns-clause-grows
returns-clause-grows g c = c.loop-next.invariant.grows

pub returns-in_err-do_next-clause-bad : goal.returns-in_err-do_next-clause-bad
returns-in_err-do_next-clause-bad g c =
    let setup = g.N.Naming.wire.setup in
    let seat = c.args.seat.now in
    let steps = c.args.steps.now in
    let new = c.do_next.new.seat in
    let p = err_from_is_err_and c.from_residual.result c.from_residual.ensures.1 in
    bad-at ((start : SeatData) (from : ℕ) → Progress setup start steps c.args.at from seat → CannotGoOn setup start steps new)
    c.from_residual.result c.in_err-do_next.field-0.0 (p.1 ∙ ap Err p.2)
    (λ bad start from q. c.in_err-do_next.ensures.bad bad start from (c.loop-next.invariant.kept start from q))
