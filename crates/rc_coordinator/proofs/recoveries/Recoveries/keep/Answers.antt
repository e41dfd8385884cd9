use Rattle.std.proofs.Common.{◌≡◌, ◌-◌, ◌≤◌, length, Some, ap, arith}
use Rattle.std.proofs.lemmas.Result.{on_ok_weaker}
use Rattle.rc_model.specs.Deciding.{with_answer}
use Rattle.rc_attempts.specs.Lookups.{attempt_of}
use Rattle.rc_coordinator.specs.contracts.recoveries.Recoveries.{the_view}
use Rattle.rc_coordinator.proofs.AskedLemmas.{attempt_of-read, asked-changed, length-set, answered-waits, with-changed}
use Rattle.rc_coordinator.proofs.recoveries.Recoveries.keep.Goals as goal

pub invariant_of-self : goal.invariant_of-self
invariant_of-self c =
    let r = c.self.inside in
    let within : c.args.number ≤ length r.attempts.items =
    omega (arith, c.requires.1, ap (λ v. length v.attempts) c.self.view_is) in
    record {
      kept =
          asked-changed r.attempts.items r.current.entries r.grants.grants r.asked.items c.args.number c.index_mut.result.now
          c.keep.new.self c.requires.0
          (attempt_of-read r.attempts.items c.args.number c.index_mut.result.now c.requires.0 within c.index_mut.ensures.value)
          (answered-waits c.keep.result r.current.entries r.grants.grants c.args.number c.index_mut.result.now c.keep.new.self
          c.args.from c.args.rows c.keep.ensures.ok c.keep.ensures.err)
          c.self.invariant.kept;
      few = omega (
        arith,
        c.self.invariant.few,
        length-set r.attempts.items c.keep.new.self (c.args.number - 1),
      );
    }

pub returns-clause-ok : goal.returns-clause-ok
returns-clause-ok c =
    let r = c.self.inside in
    let within : c.args.number ≤ length r.attempts.items =
    omega (arith, c.requires.1, ap (λ v. length v.attempts) c.self.view_is) in
    let there : attempt_of r.attempts.items c.args.number ≡ Some c.index_mut.result.now =
    attempt_of-read r.attempts.items c.args.number c.index_mut.result.now c.requires.0 within c.index_mut.ensures.value in
    rw (← c.self.view_is)
    (on_ok_weaker c.keep.result (λ is attempt at. with-changed (the_view r) c.args.number c.index_mut.result.now attempt
    c.keep.new.self (with_answer c.args.from c.args.rows) there at is) c.keep.ensures.ok)
