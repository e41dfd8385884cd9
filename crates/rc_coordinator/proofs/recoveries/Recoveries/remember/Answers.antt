use Rattle.std.proofs.Common.{List, sym, ap, subst}
use Rattle.rc_types.specs.declared.kept.Grant.{Grant}
use Rattle.rc_coordinator.specs.Asked.{AreAsked}
use Rattle.rc_coordinator.proofs.AskedLemmas.{asked-granted}
use Rattle.rc_coordinator.proofs.recoveries.Recoveries.remember.Goals as goal

pub invariant_of-self : goal.invariant_of-self
invariant_of-self c =
    let r = c.self.inside in record {
      kept =
          subst (λ (grants : List Grant). AreAsked r.attempts.items r.current.entries grants r.asked.items)
          (sym (ap (λ granted. granted.grants) c.remember.ensures))
          (asked-granted r.attempts.items r.current.entries r.grants.grants r.asked.items c.args.grant c.self.invariant.kept);
      few = c.self.invariant.few;
    }
