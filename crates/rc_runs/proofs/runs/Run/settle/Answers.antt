use Rattle.std.proofs.Common.{◌≡◌, ◌∙◌, Some, Err, sym, ap, arith}
use Rattle.std.proofs.lemmas.Result.{err_from_is_err_and}
use Rattle.rc_types.specs.declared.events.Event.TheVariants.{Deliver}
use Rattle.rc_runs.specs.Settling.{due_from, events_left, pass}
use Rattle.rc_world.specs.Happened.{replayed}
use Rattle.rc_runs.specs.Steps.{room_at}
use Rattle.rc_runs.proofs.Passes.{longer, room_enough, turn_taken, turn_stops, turn_ends}
use Rattle.rc_runs.proofs.runs.Run.settle.Goals as goal

pub loop-number-preserved : goal.loop-number-preserved
loop-number-preserved g c =
    let passing = c.args.passing.now in
    let made = c.in_ok-from.ensures in
    let due : due_from passing (replayed c.loop-number.self).events (replayed c.loop-number.self).sent
    c.loop-number.from ≡ Some c.in-Some.number = sym c.next_due.ensures.due ∙ c.in-Some.is in
    let more = longer c.loop-number.self c.deliver.new.self (Deliver c.in-Some.number) made.ok in
    record {
      reached = λ most room.
          c.loop-number.invariant.reached most (omega (arith, room, more))
          ∙ turn_taken passing most c.loop-number.from c.in-Some.number c.loop-number.self c.deliver.new.self
          c.next_due.ensures.taken due made.ok made.possible room
          ∙ ap (λ n. pass passing (events_left most (replayed c.deliver.new.self)) (replayed c.deliver.new.self) n) (sym made.next);
      more = omega (arith, c.loop-number.invariant.more, more);
    }

pub returns-clause-ok : goal.returns-clause-ok
returns-clause-ok g c most room =
    c.loop-number.invariant.reached most room
    ∙ turn_ends c.args.passing.now (events_left most (replayed c.loop-number.self)) (replayed c.loop-number.self) c.loop-number.from
    (sym c.next_due.ensures.due ∙ c.in_default.is)

pub returns-in_err-from-clause-err : goal.returns-in_err-from-clause-err
returns-in_err-from-clause-err g c =
    let passing = c.args.passing.now in
    let world = c.loop-number.self in
    let fault = c.in_err-from.field-0.0 in
    let made = c.in_err-from.ensures in
    let due : due_from passing (replayed world).events (replayed world).sent c.loop-number.from ≡ Some
    c.in-Some.number = sym c.next_due.ensures.due ∙ c.in-Some.is in
    let p = err_from_is_err_and c.from_residual.result c.from_residual.ensures.1 in
    rw (p.1, p.2, made.err)
    (c.loop-number.invariant.reached (room_at fault world) (room_enough fault world made.fault c.next_due.ensures.few)
    ∙ turn_stops passing fault c.loop-number.from c.in-Some.number world c.next_due.ensures.taken due made.fault
    (λ same. made.bad (ap Err same)))
