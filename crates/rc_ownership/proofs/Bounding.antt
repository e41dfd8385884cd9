-- Bounds of groups, place by place.
use Rattle.std.proofs.Common.{◌≡◌, ◌⊎◌, inl, inr, ℕ, zero, suc, ◌+◌, ◌<◌, ◌≤◌, Bool, true, false, ◌||◌, true≢false, List, []}
use Rattle.std.proofs.Common.{◌∷◌, ◌++◌, length, take, drop, slice_get, slice_set, Some, refl, ap, subst, ◌∙◌, arith}
use Rattle.std.specs.List.{list_any}

-- what stands in a list of which one place was set: what was set there, or what stood there
pub set-there : {X : Type 0} (xs : List X) (place other : ℕ) (x y : X) → slice_get (slice_set xs place x) other ≡ Some y →
    (y ≡ x) ⊎ (slice_get xs other ≡ Some y)
set-there [] place other x y e = inr e
set-there (first ∷ xs) zero zero x y e = inl cc
set-there (first ∷ xs) zero (suc other) x y e = inr e
set-there (first ∷ xs) (suc place) zero x y e = inr e
set-there (first ∷ xs) (suc place) (suc other) x y e = set-there xs place other x y e

pub set-here : {X : Type 0} (xs : List X) (place : ℕ) (x y : X) → slice_get (slice_set xs place x) place ≡ Some y → y ≡ x
set-here [] place x y e = cc
set-here (first ∷ xs) zero x y e = cc
set-here (first ∷ xs) (suc place) x y e = set-here xs place x y e

-- what stands among one more of the first places: it stands there already, or it is the last of them
pub taken-more : {X : Type 0} (xs : List X) (count place : ℕ) (x last : X) → slice_get (take (suc count) xs) place ≡ Some x →
    slice_get xs count ≡ Some last → (slice_get (take count xs) place ≡ Some x) ⊎ (x ≡ last)
taken-more [] count place x last e at = cc
taken-more (first ∷ xs) zero zero x last e at = inr cc
taken-more (first ∷ xs) zero (suc place) x last e at = cc
taken-more (first ∷ xs) (suc count) zero x last e at = inl e
taken-more (first ∷ xs) (suc count) (suc place) x last e at = taken-more xs count place x last e at

-- what stands among the first so many stands there at all
pub among-first : {X : Type 0} (xs : List X) (more : List X) (place : ℕ) (x : X) → slice_get xs place ≡ Some x →
    slice_get (xs ++ more) place ≡ Some x
among-first [] more place x e = cc
among-first (first ∷ xs) more zero x e = e
among-first (first ∷ xs) more (suc place) x e = among-first xs more place x e

pub among-first-back : {X : Type 0} (xs : List X) (more : List X) (place : ℕ) (x : X) → place < length xs →
    slice_get (xs ++ more) place ≡ Some x → slice_get xs place ≡ Some x
among-first-back [] more place x within e = absurd (omega (arith, within))
among-first-back (first ∷ xs) more zero x within e = e
among-first-back (first ∷ xs) more (suc place) x within e = among-first-back xs more place x (omega (arith, within)) e

-- what stands in the middle of a list
pub in-middle : {X : Type 0} (xs : List X) (from count place : ℕ) (x : X) → place < count → slice_get xs (from + place) ≡ Some x →
    slice_get (take count (drop from xs)) place ≡ Some x
in-middle [] from count place x within e = cc
in-middle (first ∷ xs) zero zero place x within e = absurd (omega (arith, within))
in-middle (first ∷ xs) zero (suc count) zero x within e = e
in-middle (first ∷ xs) zero (suc count) (suc place) x within e =
    in-middle xs zero count place x (omega (arith, within))
    (let step : 0 + suc place ≡ suc (0 + place) = omega arith in subst (λ n. slice_get (first ∷ xs) n ≡ Some x) step e)
in-middle (first ∷ xs) (suc from) count place x within e =
    in-middle xs from count place x within
    (let step : suc from + place ≡ suc (from + place) = omega arith in subst (λ n. slice_get (first ∷ xs) n ≡ Some x) step e)

or-false : (a b : Bool) → (a || b) ≡ false → (a ≡ false) × (b ≡ false)
or-false true b e = absurd (true≢false e)
or-false false b e = (refl, e)

none-of : {X : Type 0} (test : X → Bool) (first : X) (xs : List X) → test first ≡ false → list_any test xs ≡ false →
    list_any test (first ∷ xs) ≡ false
none-of test first xs e rest = ap (λ b. b || list_any test xs) e ∙ rest

-- a test that fails of the first so many, and of all others, fails of all
pub none-passes : {X : Type 0} (test : X → Bool) (xs : List X) (count : ℕ) → list_any test (take count xs) ≡ false →
    ((place : ℕ) (x : X) → count ≤ place → slice_get xs place ≡ Some x → test x ≡ false) → list_any test xs ≡ false
none-passes test [] count none others = refl
none-passes test (first ∷ xs) zero none others =
    none-of test first xs (others 0 first (omega arith) refl)
    (none-passes test xs zero refl (λ place x above at. others (suc place) x (omega arith) at))
none-passes test (first ∷ xs) (suc count) none others =
    let parts = or-false (test first) (list_any test (take count xs)) none in
    none-of test first xs parts.0
    (none-passes test xs count parts.1 (λ place x above at. others (suc place) x (omega (arith, above)) at))

-- what stands among the first so many: its place is below them, and it stands there
pub below-taken : {X : Type 0} (xs : List X) (count place : ℕ) (x : X) → slice_get (take count xs) place ≡ Some x →
    (place < count) × (slice_get xs place ≡ Some x)
below-taken xs zero place x e = cc
below-taken [] (suc count) place x e = cc
below-taken (first ∷ xs) (suc count) zero x e = (omega arith, e)
below-taken (first ∷ xs) (suc count) (suc place) x e =
    let rest = below-taken xs count place x e in
    (omega (arith, rest.0), rest.1)
