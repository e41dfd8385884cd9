-- The test of which term is the earlier one says what the relation says.
use Rattle.std.proofs.Common.{◌≡◌, ◌⊎◌, ℕ, zero, suc, Bool, true, ◌&&◌, ◌||◌, nat_eq, List, [], ◌∷◌, slice_get, Some}
use Rattle.std.proofs.Common.{refl, sym, subst, inl, inr, arith}
use Rattle.std.proofs.lemmas.Bool.{eqb-true, eq-eqb, and_parts, and_from, or_cases, or_left, or_right}
use Rattle.rc_model.specs.Owners.{Granted, IsBefore, previous, onward, is_before}

-- more grants leave what is before before
before-more : {grant : Granted} {grants : List Granted} {earlier later : ℕ} → IsBefore grants earlier later →
    IsBefore (grant ∷ grants) earlier later
before-more (previous k one at) = previous (suc k) one at
before-more {earlier} (onward _ k one at rest) = onward earlier (suc k) one at (before-more rest)

-- before and before is before
pub before-through : {grants : List Granted} {a b c : ℕ} → IsBefore grants a b → IsBefore grants b c → IsBefore grants a c
before-through {a} one (previous k grant at) = onward a k grant at one
before-through {a} one (onward _ k grant at rest) = onward a k grant at (before-through one rest)

-- the same term, or an earlier one
abbrev AtOrBefore : List Granted → ℕ → ℕ → Type 0
AtOrBefore grants a b = (a ≡ b) ⊎ IsBefore grants a b

-- a way that does without the first grant, or takes it once
abbrev Way : Granted → List Granted → ℕ → ℕ → Type 0
Way grant grants earlier later =
    IsBefore grants earlier later ⊎ (((later ≡ grant.term) ⊎ IsBefore grants grant.term later) × AtOrBefore grants earlier grant.previous)

-- one more step by another grant than the first
further : (grant one : Granted) (grants : List Granted) (earlier k : ℕ) → slice_get grants k ≡ Some one →
    Way grant grants earlier one.previous → Way grant grants earlier one.term
further grant one grants earlier k at (inl before) = inl (onward earlier k one at before)
further grant one grants earlier k at (inr (inl same, rest)) =
    inr (inr (subst (λ x. IsBefore grants x one.term) same (previous k one at)), rest)
further grant one grants earlier k at (inr (inr before, rest)) = inr (inr (onward grant.term k one at before), rest)

-- one more step by the first grant
around : (grant : Granted) {grants : List Granted} {earlier : ℕ} → Way grant grants earlier grant.previous →
    Way grant grants earlier grant.term
around grant (inl before) = inr (inl refl, inr before)
around grant (inr (to, rest)) = inr (inl refl, rest)

-- each way can be cut so that it takes the first grant at most once
way_of : {grant : Granted} {grants : List Granted} {earlier later : ℕ} → IsBefore (grant ∷ grants) earlier later →
    Way grant grants earlier later
way_of {grant} {grants} (previous zero one at) =
    let same : grant ≡ one = cc in subst (λ g. Way grant grants g.previous g.term) same (inr (inl refl, inl refl))
way_of (previous (suc k) one at) = inl (previous k one at)
way_of {grant} {grants} {earlier} (onward _ zero one at rest) =
    let same : grant ≡ one = cc in
    subst (λ g. Way grant grants earlier g.term) same
    (around grant (subst (λ g. Way grant grants earlier g.previous) (sym same) (way_of rest)))
way_of {grant} {grants} {earlier} (onward _ (suc k) one at rest) = further grant one grants earlier k at (way_of rest)

-- and a way is a way
before_by : {grant : Granted} {grants : List Granted} {earlier later : ℕ} → Way grant grants earlier later →
    IsBefore (grant ∷ grants) earlier later
before_by (inl before) = before-more before
before_by {grant} {grants} {earlier} {later} (inr (to, from)) = last to
  where
    first : AtOrBefore grants earlier grant.previous → IsBefore (grant ∷ grants) earlier grant.term
    first (inl same) = subst (λ x. IsBefore (grant ∷ grants) x grant.term) (sym same) (previous 0 grant refl)
    first (inr before) = onward earlier 0 grant refl (before-more before)

    last : (later ≡ grant.term) ⊎ IsBefore grants grant.term later → IsBefore (grant ∷ grants) earlier later
    last (inl same) = subst (λ x. IsBefore (grant ∷ grants) earlier x) (sym same) (first from)
    last (inr before) = before-through (first from) (before-more before)

-- the test for "the same term, or an earlier one"
at_or-finds : {b : Bool} {a c : ℕ} (P : Type 0) → (b ≡ true → P) → (nat_eq a c || b) ≡ true → (a ≡ c) ⊎ P
at_or-finds {b} {a} {c} P before h = search (arith, or_cases, nat_eq, eqb-true)

at_or-found : {b : Bool} {a c : ℕ} (P : Type 0) → (P → b ≡ true) → (a ≡ c) ⊎ P → (nat_eq a c || b) ≡ true
at_or-found {b} {a} {c} P found (inl same) = or_left (nat_eq a c) b (eq-eqb a c same)
at_or-found {b} {a} {c} P found (inr rest) = or_right (nat_eq a c) b (found rest)

-- the test for a way
way-finds : {whole to from : Bool} (grant : Granted) {grants : List Granted} {earlier later : ℕ} →
    (whole ≡ true → IsBefore grants earlier later) → (to ≡ true → IsBefore grants grant.term later) →
    (from ≡ true → IsBefore grants earlier grant.previous) →
    (whole || ((nat_eq later grant.term || to) && (nat_eq earlier grant.previous || from))) ≡ true → Way grant grants earlier later
way-finds {whole} {to} {from} grant {grants} {earlier} {later} at_whole at_to at_from h =
    search (arith, or_cases, nat_eq, and_parts, at_or-finds)

way-found : {whole to from : Bool} (grant : Granted) {grants : List Granted} {earlier later : ℕ} →
    (IsBefore grants earlier later → whole ≡ true) → (IsBefore grants grant.term later → to ≡ true) →
    (IsBefore grants earlier grant.previous → from ≡ true) →
    Way grant grants earlier later → (whole || ((nat_eq later grant.term || to) && (nat_eq earlier grant.previous || from))) ≡ true
way-found {whole} {to} {from} grant {earlier} {later} at_whole at_to at_from (inl rest) =
    or_left whole ((nat_eq later grant.term || to) && (nat_eq earlier grant.previous || from)) (at_whole rest)
way-found {whole} {to} {from} grant {grants} {earlier} {later} at_whole at_to at_from (inr way) =
    search (arith, or_right, nat_eq, and_from, at_or-found)

-- what the test finds is before
pub is_before-finds : (grants : List Granted) {earlier later : ℕ} →
    is_before grants earlier later ≡ true → IsBefore grants earlier later
is_before-finds [] e = cc
is_before-finds (grant ∷ grants) e = before_by (way-finds grant
    (is_before-finds grants) (is_before-finds grants) (is_before-finds grants) e)

none_before : {earlier later : ℕ} → IsBefore [] earlier later → ⊥
none_before (previous k one at) = cc
none_before (onward _ k one at rest) = cc

-- and the test finds what is before
pub is_before-found : (grants : List Granted) {earlier later : ℕ} → IsBefore grants earlier later →
    is_before grants earlier later ≡ true
is_before-found [] before = absurd (none_before before)
is_before-found (grant ∷ grants) before = way-found grant
    (is_before-found grants) (is_before-found grants) (is_before-found grants) (way_of before)
