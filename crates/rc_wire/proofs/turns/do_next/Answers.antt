use Rattle.rc_types.specs.declared.faults.Fault.TheVariants.{OutOfMemory}
use Rattle.std.proofs.Common.{◌≡◌, ℕ, Some, None, sym, ap, ◌∙◌, refl}
use Rattle.std.specs.Prelude.{Err}
use Rattle.std.proofs.lemmas.Result.{err_from_is_err_and}
use Rattle.rc_wire.specs.SeatView.{SeatData}
use Rattle.rc_wire.specs.Ends.{CannotGoOn}
use Rattle.rc_types.specs.declared.ids.NodeName.{NodeName}
use Rattle.rc_wire.specs.Runs.{Progress, own_work}
use Rattle.rc_wire.proofs.Turning.{on-ok, get-index, progress-done, progress-skipped, grows-same, grows-tried}
use Rattle.rc_wire.proofs.Stuck.{IsRefused, bad-at, bad-then, memory-not-bad, refused-is-stuck}
use Rattle.rc_wire.proofs.turns.do_next.Goals as goal

pub returns-in-Some-clause-ok : goal.returns-in-Some-clause-ok
returns-in-Some-clause-ok g c =
    let step = c.index-steps-at.result in
    let own : own_work c.args.seat.now.name step ≡ Some c.in-Some.work =
    ap (λ (n : NodeName). own_work n step) (sym c.name.ensures.name) ∙ (sym c.in_ok-work.ensures ∙ c.in-Some.is) in
    on-ok c.take_step.result (λ takes start from p.
    progress-done g.N.Naming.wire.setup start c.args.steps.now c.args.at from c.args.seat.now c.take_step.new.seat step
    c.in-Some.work p c.requires.works (get-index c.args.steps.now c.args.at step c.requires.within c.index-steps-at.is) own takes)
    c.take_step.ensures.ok

pub returns-in-None-clause-ok : goal.returns-in-None-clause-ok
returns-in-None-clause-ok g c =
    let step = c.index-steps-at.result in
    let other : own_work c.args.seat.now.name step ≡ None =
    ap (λ (n : NodeName). own_work n step) (sym c.name.ensures.name) ∙ (sym c.in_ok-work.ensures ∙ c.in-None.is) in
    λ start from p. progress-skipped g.N.Naming.wire.setup start c.args.steps.now c.args.at from c.args.seat.now step p
    (get-index c.args.steps.now c.args.at step c.requires.within c.index-steps-at.is) other

pub returns-in_err-work-clause-grows : goal.returns-in_err-work-clause-grows
returns-in_err-work-clause-grows g c = grows-same c.args.seat.now

pub returns-in-None-clause-grows : goal.returns-in-None-clause-grows
returns-in-None-clause-grows g c = grows-same c.args.seat.now

pub returns-in-Some-clause-idle : goal.returns-in-Some-clause-idle
returns-in-Some-clause-idle g c = on-ok c.take_step.result (λ takes. takes.idle) c.take_step.ensures.ok

pub returns-in-Some-clause-grows : goal.returns-in-Some-clause-grows
returns-in-Some-clause-grows g c =
    grows-tried g.N.Naming.wire.setup c.args.seat.now c.in-Some.work c.take_step.new.seat c.take_step.result c.take_step.ensures.ok
    c.take_step.ensures.err

pub returns-in_err-work-clause-bad : goal.returns-in_err-work-clause-bad
returns-in_err-work-clause-bad g c =
    let setup = g.N.Naming.wire.setup in
    let seat = c.args.seat.now in
    let steps = c.args.steps.now in
    let p = err_from_is_err_and c.from_residual.result c.from_residual.ensures.1 in
    bad-at ((start : SeatData) (from : ℕ) → Progress setup start steps c.args.at from seat → CannotGoOn setup start steps seat)
    c.from_residual.result OutOfMemory (p.1 ∙ ap Err p.2) (memory-not-bad _ OutOfMemory refl)

pub returns-in-Some-clause-bad : goal.returns-in-Some-clause-bad
returns-in-Some-clause-bad g c =
    let setup = g.N.Naming.wire.setup in
    let seat = c.args.seat.now in
    let steps = c.args.steps.now in
    let new = c.take_step.new.seat in
    let step = c.index-steps-at.result in
    let own : own_work seat.name step ≡ Some c.in-Some.work =
    ap (λ (n : NodeName). own_work n step) (sym c.name.ensures.name) ∙ (sym c.in_ok-work.ensures ∙ c.in-Some.is) in
    bad-then (IsRefused setup seat c.in-Some.work new)
    ((start : SeatData) (from : ℕ) → Progress setup start steps c.args.at from seat → CannotGoOn setup start steps new)
    c.take_step.result
    (λ refused start from p. refused-is-stuck setup start steps c.args.at from seat new step c.in-Some.work p
    (get-index steps c.args.at step c.requires.within c.index-steps-at.is) own refused)
    c.take_step.ensures.bad
