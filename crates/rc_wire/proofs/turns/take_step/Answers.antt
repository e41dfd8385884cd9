use Rattle.rc_types.specs.declared.faults.Fault.TheVariants.{OutOfMemory}
use Rattle.std.proofs.Common.{inl, inr, ap, ◌∙◌, refl}
use Rattle.std.specs.Prelude.{Err}
use Rattle.std.proofs.lemmas.Result.{err_from_is_err_and}
use Rattle.rc_wire.proofs.Stuck.{IsRefused, bad-at, memory-not-bad}
use Rattle.rc_wire.proofs.Turning.{err-always, takes-committed, grows-prepared, grows-through, grows-later, grows-takes}
use Rattle.rc_wire.proofs.turns.take_step.Goals as goal

pub returns-in_err-commit-clause-err : goal.returns-in_err-commit-clause-err
returns-in_err-commit-clause-err g c =
    err-always c.from_residual-in_err-commit.result
    (grows-through c.args.seat.now c.prepare.new.self c.commit.new.seat
    (grows-prepared g.N.Naming.wire.setup c.args.seat.now c.args.work c.prepare.new.self c.in_ok-prepare.ensures.ok)
    (grows-later c.prepare.new.self c.commit.new.seat c.in_err-commit.ensures.err))

pub returns-clause-ok : goal.returns-clause-ok
returns-clause-ok g c =
    (takes-committed g.N.Naming.wire.setup c.args.seat.now c.args.work c.prepare.new.self c.in_ok-commit.field-0 c.commit.new.seat
    c.in_ok-prepare.ensures.ok c.in_ok-commit.ensures.ok)

pub returns-in_err-after_commit-clause-err : goal.returns-in_err-after_commit-clause-err
returns-in_err-after_commit-clause-err g c =
    err-always c.from_residual-in_err-after_commit.result
    (grows-takes g.N.Naming.wire.setup c.args.seat.now c.args.work c.commit.new.seat
    (takes-committed g.N.Naming.wire.setup c.args.seat.now c.args.work c.prepare.new.self c.in_ok-commit.field-0 c.commit.new.seat
    c.in_ok-prepare.ensures.ok c.in_ok-commit.ensures.ok))

pub returns-in_err-prepare-clause-bad : goal.returns-in_err-prepare-clause-bad
returns-in_err-prepare-clause-bad g c =
    let p = err_from_is_err_and c.from_residual.result c.from_residual.ensures.1 in
    bad-at (IsRefused g.N.Naming.wire.setup c.args.seat.now c.args.work c.prepare.new.self) c.from_residual.result
    c.in_err-prepare.field-0.0 (p.1 ∙ ap Err p.2)
    (λ bad. inl ((c.prepare.ensures.bad.0 (c.in_err-prepare.was ∙ ap Err bad)).1, c.in_err-prepare.ensures.err))

pub returns-in_err-commit-clause-bad : goal.returns-in_err-commit-clause-bad
returns-in_err-commit-clause-bad g c =
    let p = err_from_is_err_and c.from_residual-in_err-commit.result c.from_residual-in_err-commit.ensures.1 in
    bad-at (IsRefused g.N.Naming.wire.setup c.args.seat.now c.args.work c.commit.new.seat)
    c.from_residual-in_err-commit.result c.in_err-commit.field-0.0 (p.1 ∙ ap Err p.2)
    (λ bad. inr (c.commit.ensures.limit (c.in_err-commit.was ∙ ap Err bad)))

pub returns-in_err-after_commit-clause-bad : goal.returns-in_err-after_commit-clause-bad
returns-in_err-after_commit-clause-bad g c =
    let p = err_from_is_err_and c.from_residual-in_err-after_commit.result c.from_residual-in_err-after_commit.ensures.1 in
    bad-at (IsRefused g.N.Naming.wire.setup c.args.seat.now c.args.work c.commit.new.seat)
    c.from_residual-in_err-after_commit.result OutOfMemory (p.1 ∙ ap Err p.2) (memory-not-bad _ OutOfMemory refl)
