-- Lists of views, by their numbers.
use Rattle.std.proofs.Common.{◌≡◌, ◌≢◌, ℕ, zero, suc, ◌⊎◌, inl, inr, ⊎_elim, cond, nat_eq, List, [], ◌∷◌, ◌++◌, length, refl, sym, ap}
use Rattle.std.proofs.lemmas.Bool.{eq-eqb, ne_eqb}
use mathlib.Core.Option.{some, some-injective, some-ne-none}
use lib.ListN.{get_elem?}

-- where one more stands at the end
pub last-there : {A : Type 0} (l : List A) (j : ℕ) (a b : A) → get_elem? (l ++ a ∷ []) j ≡ some b →
    ((j ≡ length l) × (a ≡ b)) ⊎ (get_elem? l j ≡ some b)
last-there [] zero a b e = inl (refl, some-injective a b e)
last-there [] (suc j) a b e = absurd (some-ne-none b (sym e))
last-there (x ∷ xs) zero a b e = inr e
last-there (x ∷ xs) (suc j) a b e =
    ⊎_elim (λ (t : (j ≡ length xs) × (a ≡ b)). inl (ap suc t.0, t.1)) (λ (t : get_elem? xs j ≡ some b). inr t) (last-there xs j a b e)

-- a table of numbers with one changed
pub with_one : (ℕ → ℕ) → ℕ → ℕ → ℕ → ℕ
with_one table key value other = cond (nat_eq key other) value (table other)

pub with_one-same : (table : ℕ → ℕ) (key value : ℕ) → with_one table key value key ≡ value
unfolding with_one
with_one-same table key value = ap (λ b. cond b value (table key)) (eq-eqb key key refl)

pub with_one-other : (table : ℕ → ℕ) (key value other : ℕ) → key ≢ other → with_one table key value other ≡ table other
unfolding with_one
with_one-other table key value other differ = ap (λ b. cond b value (table other)) (ne_eqb key other differ)
