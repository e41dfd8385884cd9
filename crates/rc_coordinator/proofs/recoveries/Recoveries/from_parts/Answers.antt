use Rattle.std.proofs.Common.{◌≡◌, ℕ, length, subst, arith}
use Rattle.rc_coordinator.specs.Asked.{AreUpTo}
use Rattle.rc_coordinator.proofs.ListLemmas.{all-asked}
use Rattle.rc_coordinator.proofs.recoveries.Recoveries.from_parts.Goals as goal

pub invariant_of-result : goal.invariant_of-result
invariant_of-result c =
    let counted : c.len.result ≡ length c.args.attempts.items = omega (arith, c.args.attempts.ok.0) in
    record {
      kept = all-asked c.args.attempts.items c.args.current.entries c.in_ok-grants.grants.grants c.in_ok-asked.asked.items
          (subst (λ (n : ℕ). AreUpTo n c.in_ok-asked.asked.items) counted c.in_ok-asked.ensures);
      few = c.requires;
    }
