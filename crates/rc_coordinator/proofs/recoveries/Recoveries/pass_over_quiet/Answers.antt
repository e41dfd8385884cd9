use Rattle.std.proofs.Common.{List, ℕ, rules, tests, sym, subst}
use Rattle.std.proofs.lemmas.Fn.{filter_same}
use Rattle.rc_attempts.specs.Lookups.{attempt_of}
use Rattle.rc_coordinator.specs.Asked.{waits_at, AreAsked}
use Rattle.rc_coordinator.proofs.AskedLemmas.{asked-kept}
use Rattle.rc_coordinator.proofs.recoveries.Recoveries.pass_over_quiet.Goals as goal

pub invariant_of-self : goal.invariant_of-self
invariant_of-self c =
    let r = c.self.inside in record {
      kept =
          subst (λ (asked : List ℕ). AreAsked r.attempts.items r.current.entries r.grants.grants asked)
          (sym (filter_same _ (λ number. waits_at r.current.entries r.grants.grants number (attempt_of r.attempts.items number))
          _ (λ x b f k. search (rules, tests)) _ _ c.retain.ensures.filtered))
          (asked-kept r.attempts.items r.current.entries r.grants.grants r.asked.items c.self.invariant.kept);
      few = c.self.invariant.few;
    }
