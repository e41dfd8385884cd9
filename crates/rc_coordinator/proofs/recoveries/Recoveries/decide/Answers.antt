use Rattle.std.proofs.Common.{◌≡◌, ◌-◌, ◌≤◌, length, Some, sym, ap, ◌∙◌, arith}
use Rattle.rc_attempts.specs.Lookups.{attempt_of}
use Rattle.rc_coordinator.specs.contracts.recoveries.Recoveries.{the_view}
use Rattle.rc_coordinator.proofs.AskedLemmas.{attempt_of-read, asked-changed, length-set, decided-waits, with-changed}
use Rattle.rc_coordinator.proofs.recoveries.Recoveries.decide.Goals as goal

pub invariant_of-self : goal.invariant_of-self
invariant_of-self c =
    let r = c.self.inside in
    let within : c.args.number ≤ length r.attempts.items =
    omega (arith, c.requires.place.1, ap (λ v. length v.attempts) c.self.view_is) in
    let there : attempt_of r.attempts.items c.args.number ≡ Some c.index_mut.result.now =
    attempt_of-read r.attempts.items c.args.number c.index_mut.result.now c.requires.place.0 within c.index_mut.ensures.value in
    record {
      kept =
          asked-changed r.attempts.items r.current.entries r.grants.grants r.asked.items c.args.number c.index_mut.result.now
          c.decide.new.self c.requires.place.0 there
          (decided-waits r.current.entries r.grants.grants c.args.number c.index_mut.result.now c.decide.new.self c.args.decision
          (c.requires.gathers c.index_mut.result.now
          (ap (λ v. attempt_of v.attempts c.args.number) (sym c.self.view_is) ∙ there)) c.decide.ensures)
          c.self.invariant.kept;
      few = omega (
        arith,
        c.self.invariant.few,
        length-set r.attempts.items c.decide.new.self (c.args.number - 1),
      );
    }

pub returns : goal.returns
returns c =
    let r = c.self.inside in
    let within : c.args.number ≤ length r.attempts.items =
    omega (arith, c.requires.place.1, ap (λ v. length v.attempts) c.self.view_is) in
    let there : attempt_of r.attempts.items c.args.number ≡ Some c.index_mut.result.now =
    attempt_of-read r.attempts.items c.args.number c.index_mut.result.now c.requires.place.0 within c.index_mut.ensures.value in
    rw (← c.self.view_is)
    (λ attempt at. with-changed (the_view r) c.args.number c.index_mut.result.now attempt c.decide.new.self
    (λ one. record one { decided = Some c.args.decision }) there at c.decide.ensures)
