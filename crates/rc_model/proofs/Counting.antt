-- How many of a list pass a test, and of the numbers to one.
use Rattle.std.proofs.Common.{◌≡◌, ℕ, zero, suc, ◌≤◌, ◌<◌, Bool, true, false, cond, List, [], ◌∷◌, ◌++◌, length}
use Rattle.std.proofs.Common.{filter, find, Some, refl, sym, ap, ◌∙◌, arith}
use Rattle.std.proofs.lemmas.List.Elements.{filter-append}
use Rattle.rc_model.specs.Log.{numbers_to}
use Rattle.rc_model.proofs.Tests.{true_false}

-- what passes the second test passes the first
abbrev pub Narrower : {X : Type 0} → (X → Bool) → (X → Bool) → Type 0
Narrower {X} wide narrow = (x : X) → narrow x ≡ true → wide x ≡ true

-- then no more pass the second
pub filter-fewer : {X : Type 0} {wide narrow : X → Bool} (xs : List X) → Narrower wide narrow →
    length (filter narrow xs) ≤ length (filter wide xs)
filter-fewer [] less = omega arith
filter-fewer {wide} {narrow} (x ∷ xs) less = by (narrow x) refl (wide x) refl (filter-fewer xs less)
  where
    by : (b : Bool) → narrow x ≡ b → (t : Bool) → wide x ≡ t → length (filter narrow xs) ≤ length (filter wide xs) →
        length (cond b (x ∷ filter narrow xs) (filter narrow xs)) ≤ length (cond t (x ∷ filter wide xs) (filter wide xs))
    by true n true w rest = omega arith
    by true n false w rest = true_false (sym (less x n) ∙ w)
    by false n true w rest = omega arith
    by false n false w rest = rest

-- and fewer, where one that was found passes the first alone
pub filter-lower : {X : Type 0} (test : X → Bool) {wide narrow : X → Bool} (xs : List X) {found : X} → Narrower wide narrow →
    wide found ≡ true → narrow found ≡ false → find test xs ≡ Some found →
    length (filter narrow xs) < length (filter wide xs)
filter-lower test [] less is isn't e = cc
filter-lower test {wide} {narrow} (x ∷ xs) {found} less is isn't e =
    by (test x) (narrow x) refl (wide x) refl (filter-fewer xs less) (filter-lower test xs less is isn't) e
  where
    here : (b : Bool) → narrow x ≡ b → (t : Bool) → wide x ≡ t → length (filter narrow xs) ≤ length (filter wide xs) → x ≡ found →
        length (cond b (x ∷ filter narrow xs) (filter narrow xs)) < length (cond t (x ∷ filter wide xs) (filter wide xs))
    here true n t w rest same = true_false (sym n ∙ (ap narrow same ∙ isn't))
    here false n true w rest same = omega arith
    here false n false w rest same = true_false (sym is ∙ (sym (ap wide same) ∙ w))

    there : (b : Bool) → narrow x ≡ b → (t : Bool) → wide x ≡ t → length (filter narrow xs) < length (filter wide xs) →
        length (cond b (x ∷ filter narrow xs) (filter narrow xs)) < length (cond t (x ∷ filter wide xs) (filter wide xs))
    there true n true w rest = omega arith
    there true n false w rest = true_false (sym (less x n) ∙ w)
    there false n true w rest = omega arith
    there false n false w rest = rest

    by : (f : Bool) (b : Bool) → narrow x ≡ b → (t : Bool) → wide x ≡ t → length (filter narrow xs) ≤ length (filter wide xs) →
        (find test xs ≡ Some found → length (filter narrow xs) < length (filter wide xs)) → cond f (Some x) (find test xs) ≡ Some found →
        length (cond b (x ∷ filter narrow xs) (filter narrow xs)) < length (cond t (x ∷ filter wide xs) (filter wide xs))
    by true b n t w rest rec e = let same : x ≡ found = cc in here b n t w rest same
    by false b n t w rest rec e = there b n t w (rec e)

-- Of the numbers to one as many pass one test as another that agrees with it there.
pub filter-agrees : {one other : ℕ → Bool} (n : ℕ) → ((k : ℕ) → 0 < k → k ≤ n → one k ≡ other k) →
    filter one (numbers_to n) ≡ filter other (numbers_to n)
filter-agrees zero same = refl
filter-agrees {one} {other} (suc n) same = filter-append one (numbers_to n) (suc n ∷ [])
    ∙ (ap (λ front. front ++ cond (one (suc n)) (suc n ∷ []) []) (filter-agrees n (λ k above below. same k above (omega arith)))
    ∙ (ap (λ b. filter other (numbers_to n) ++ cond b (suc n ∷ []) []) (same (suc n) (omega arith) (omega arith))
    ∙ sym (filter-append other (numbers_to n) (suc n ∷ []))))
