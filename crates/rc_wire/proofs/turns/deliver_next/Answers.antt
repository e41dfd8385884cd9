use Rattle.std.proofs.Common.{◌≡◌, true, false, length, ap, ◌∙◌, ◌+◌}
use Rattle.std.specs.Prelude.{Err}
use Rattle.std.proofs.lemmas.Result.{err_from_is_err_and}
use Rattle.rc_types.specs.declared.limits.TheConstants.{MAX_EVENTS}
use Rattle.rc_wire.specs.SeatCalls.{SeesNone, SeesNext}
use Rattle.rc_wire.specs.Works.{was_delivered}
use Rattle.rc_wire.specs.declared.work.Work.TheVariants.{Fetched}
use Rattle.rc_wire.proofs.Turning.{if-some, if-none, progress-later, progress-lower, progress-fetched, progress-all}
use Rattle.rc_wire.proofs.Turning.{had-idle, grows-through, grows-takes}
use Rattle.rc_wire.proofs.Seeing.{idle-sees, grows-sees, progress-saw, sees-new}
use Rattle.rc_wire.proofs.Stuck.{bad-at, can-deliver, refused-is-full}
use Rattle.rc_wire.proofs.turns.deliver_next.Goals as goal

-- there is nothing to be delivered

pub returns-in_default-clause-none : goal.returns-in_default-clause-none
returns-in_default-clause-none g c = λ start steps at p.
    let setup = g.N.Naming.wire.setup in
    let now = c.fetch_next.new.seat in
    let sees = if-none (SeesNone setup c.args.seat.now c.args.from now) c.in_ok-number.field-0 c.in_default.is
    c.in_ok-number.ensures.none in
    progress-all setup start steps at c.args.from now
    (progress-later setup start steps at c.args.from c.args.seat.now now p sees.later) sees.none

pub returns-in_default-clause-stays : goal.returns-in_default-clause-stays
returns-in_default-clause-stays g c = λ start steps at p.
    let setup = g.N.Naming.wire.setup in
    let now = c.fetch_next.new.seat in
    let sees = if-none (SeesNone setup c.args.seat.now c.args.from now) c.in_ok-number.field-0 c.in_default.is
    c.in_ok-number.ensures.none in
    progress-later setup start steps at c.args.from c.args.seat.now now p sees.later

-- the first message was delivered before

pub returns-then-has_delivered-clause-some : goal.returns-then-has_delivered-clause-some
returns-then-has_delivered-clause-some g c = λ start steps at p.
    let setup = g.N.Naming.wire.setup in
    let old = c.args.seat.now in
    let now = c.fetch_next.new.seat in
    let number = c.in-Some.number in
    let sees = if-some (λ n. SeesNext setup old c.args.from n now) c.in_ok-number.field-0 number c.in-Some.is
    c.in_ok-number.ensures.some in
    let had : was_delivered now.mine number ≡ true =
    had-idle now.mine now.pending number c.has_delivered.result true
    (idle-sees setup old c.args.from number now sees c.requires.idle) c.has_delivered.ensures c.if-has_delivered.true in
    progress-lower setup start steps at (number + 1) c.after.result now c.after.ensures
    (progress-saw setup start steps at c.args.from number old now p sees c.requires.idle had)

-- it is delivered now

pub returns-in_err-take_step-clause-bad : goal.returns-in_err-take_step-clause-bad
returns-in_err-take_step-clause-bad g c =
    let setup = g.N.Naming.wire.setup in
    let old = c.args.seat.now in
    let now = c.fetch_next.new.seat in
    let number = c.in-Some.number in
    let sees = if-some (λ n. SeesNext setup old c.args.from n now) c.in_ok-number.field-0 number c.in-Some.is
    c.in_ok-number.ensures.some in
    let fresh : was_delivered now.mine number ≡ false =
    had-idle now.mine now.pending number c.has_delivered.result false
    (idle-sees setup old c.args.from number now sees c.requires.idle) c.has_delivered.ensures c.if-has_delivered.false in
    let can = can-deliver setup sees.looked now c.args.from number sees.first
    (sees-new setup old c.args.from number now sees c.requires.idle fresh).1 in
    let p = err_from_is_err_and c.from_residual-in_err-take_step.result c.from_residual-in_err-take_step.ensures.1 in
    bad-at (length c.take_step.new.seat.seen ≡ MAX_EVENTS) c.from_residual-in_err-take_step.result c.in_err-take_step.field-0.0
    (p.1 ∙ ap Err p.2) (λ bad. refused-is-full setup now c.take_step.new.seat Fetched can (c.in_err-take_step.ensures.bad bad))

pub returns-clause-some : goal.returns-clause-some
returns-clause-some g c = λ start steps at p.
    let setup = g.N.Naming.wire.setup in
    let old = c.args.seat.now in
    let now = c.fetch_next.new.seat in
    let number = c.in-Some.number in
    let sees = if-some (λ n. SeesNext setup old c.args.from n now) c.in_ok-number.field-0 number c.in-Some.is
    c.in_ok-number.ensures.some in
    let fresh : was_delivered now.mine number ≡ false =
    had-idle now.mine now.pending number c.has_delivered.result false
    (idle-sees setup old c.args.from number now sees c.requires.idle) c.has_delivered.ensures c.if-has_delivered.false in
    let finds = sees-new setup old c.args.from number now sees c.requires.idle fresh in
    progress-lower setup start steps at (number + 1) c.after-2.result c.take_step.new.seat c.after-2.ensures
    (progress-fetched setup start steps at c.args.from number sees.looked now c.take_step.new.seat
    (progress-later setup start steps at c.args.from old sees.looked p sees.later) sees.first finds.0 finds.1
    c.in_ok-take_step.ensures.ok)

pub returns-clause-grows : goal.returns-clause-grows
returns-clause-grows g c =
    let setup = g.N.Naming.wire.setup in
    let now = c.fetch_next.new.seat in
    let sees = if-some (λ n. SeesNext setup c.args.seat.now c.args.from n now) c.in_ok-number.field-0 c.in-Some.number c.in-Some.is
    c.in_ok-number.ensures.some in
    grows-through c.args.seat.now now c.take_step.new.seat
    (grows-sees setup c.args.seat.now c.args.from c.in-Some.number now sees)
    (grows-takes setup now Fetched c.take_step.new.seat c.in_ok-take_step.ensures.ok)
