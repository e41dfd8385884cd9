use Rattle.std.proofs.Common.{inr, ap, ◌∙◌}
use Rattle.std.specs.Prelude.{Err}
use Rattle.std.proofs.lemmas.Result.{err_from_is_err_and}
use Rattle.rc_wire.specs.SeatView.{SeatData}
use Rattle.rc_wire.specs.Runs.{Progress}
use Rattle.rc_wire.specs.Ends.{CannotGoOn}
use Rattle.rc_wire.proofs.Stuck.{bad-at}
use Rattle.rc_wire.proofs.seats.obey.Goals as goal

pub returns-in_ok-do_until-in-Until-clause-ok : goal.returns-in_ok-do_until-in-Until-clause-ok
returns-in_ok-do_until-in-Until-clause-ok g c = λ start p. c.in_ok-do_until-in-Until.ensures.ok start c.args.from p

pub returns-in_ok-from-in-Look-clause-ok : goal.returns-in_ok-from-in-Look-clause-ok
returns-in_ok-from-in-Look-clause-ok g c = λ start p. c.in_ok-from-in-Look.ensures.ok start c.args.steps.now c.args.at p

pub returns-in_err-do_until-in-Until-clause-bad : goal.returns-in_err-do_until-in-Until-clause-bad
returns-in_err-do_until-in-Until-clause-bad g c =
    let setup = g.N.Naming.wire.setup in
    let steps = c.args.steps.now in
    let p = err_from_is_err_and c.from_residual.result c.from_residual.ensures.1 in
    bad-at ((start : SeatData) → Progress setup start steps c.args.at c.args.from c.args.seat.now →
    CannotGoOn setup start steps c.do_until.new.seat)
    c.from_residual.result c.in_err-do_until-in-Until.field-0.0 (p.1 ∙ ap Err p.2)
    (λ bad start q. c.in_err-do_until-in-Until.ensures.bad bad start c.args.from q)

pub returns-in_err-from-in-Look-clause-bad : goal.returns-in_err-from-in-Look-clause-bad
returns-in_err-from-in-Look-clause-bad g c =
    let setup = g.N.Naming.wire.setup in
    let steps = c.args.steps.now in
    let p = err_from_is_err_and c.from_residual-in_err-from-in-Look.result c.from_residual-in_err-from-in-Look.ensures.1 in
    bad-at ((start : SeatData) → Progress setup start steps c.args.at c.args.from c.args.seat.now →
    CannotGoOn setup start steps c.deliver_rest.new.seat)
    c.from_residual-in_err-from-in-Look.result c.in_err-from-in-Look.field-0.0 (p.1 ∙ ap Err p.2)
    (λ bad start q. inr (c.in_err-from-in-Look.ensures.bad bad))
