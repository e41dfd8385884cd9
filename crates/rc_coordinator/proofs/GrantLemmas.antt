-- The tables of grants, with one more grant.
use Rattle.std.proofs.Common.{◌≡◌, ℕ, Bool, true, false, cond, nat_eq, ◌||◌, List, [], ◌∷◌, ◌++◌, find, Some}
use Rattle.std.proofs.Common.{None, Option, refl, sym, ap, ◌∙◌}
use Rattle.std.specs.List.{list_any}
use Rattle.std.specs.Option.{option_or}
use Rattle.std.proofs.lemmas.List.Folds.{find-append, list_any-append}
use Rattle.rc_model.specs.Model.{Grant, is_grant_to}
use Rattle.rc_coordinator.specs.declared.grants.Claim.{Claim}
use Rattle.rc_coordinator.specs.Grants.{same_claim, claim_of}

-- the first grant of a claim is as before, or the new one where there was none
pub claims-more : (grants now : List Grant) (grant : Grant) (claim : Claim) (before after : Option Grant) →
    now ≡ grants ++ grant ∷ [] → before ≡ find (is_grant_to claim.owner claim.term) grants →
    after ≡ option_or before (cond (same_claim (claim_of grant) claim) (Some grant) None)
    → after ≡ find (is_grant_to claim.owner claim.term) now
claims-more grants now grant claim before after next was is =
    is ∙ ap (λ o. option_or o (cond (same_claim (claim_of grant) claim) (Some grant) None)) was
    ∙ sym (find-append (is_grant_to claim.owner claim.term) grants (grant ∷ []))
    ∙ ap (find (is_grant_to claim.owner claim.term)) (sym next)

or_false : (one last : Bool) → (one || last) ≡ (one || (last || false))
or_false true last = refl
or_false false true = refl
or_false false false = refl

-- a term is granted if it was, or if the new grant is of it
pub terms-more : (grants now : List Grant) (grant : Grant) (term : ℕ) (before after : Bool) →
    now ≡ grants ++ grant ∷ [] → before ≡ list_any (λ one. nat_eq one.term term) grants →
    after ≡ (before || nat_eq grant.term term) → after ≡ list_any (λ one. nat_eq one.term term) now
terms-more grants now grant term before after next was is =
    is ∙ ap (λ b. b || nat_eq grant.term term) was
    ∙ or_false (list_any (λ one. nat_eq one.term term) grants) (nat_eq grant.term term)
    ∙ sym (list_any-append (λ one. nat_eq one.term term) grants (grant ∷ []))
    ∙ ap (list_any (λ one. nat_eq one.term term)) (sym next)
