use Rattle.std.proofs.Common.{◌≡◌, ◌∷◌, [], ◌++◌, arith, true≢false, sym}
use Rattle.std.proofs.lemmas.Grind.{common_steps}
use Rattle.rc_coordinator.proofs.GrantLemmas.{claims-more, terms-more}
use Rattle.rc_coordinator.proofs.grants.Grants.remember.Goals as goal

pub invariant_of-self : goal.invariant_of-self
invariant_of-self c =
    let grants = c.self.inside.list.items in
    let next : c.push.new.self.items ≡ grants ++ c.args.grant ∷ [] = grind (arith, common_steps) in
    record {
      claims_are = λ claim. claims-more grants c.push.new.self.items c.args.grant claim _ _ next
          (c.self.invariant.claims_are claim) (c.note_claim.ensures claim);
      terms_are = λ term. terms-more grants c.push.new.self.items c.args.grant term _ _ next
          (c.self.invariant.terms_are term) (c.note_term.ensures term);
      room = λ ready. absurd (true≢false (sym ready));
    }
