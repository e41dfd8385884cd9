-- More on lists, and what tests of them say.
use Rattle.std.proofs.Common.{◌≡◌, ◌⊎◌, ℕ, zero, suc, ◌<◌, Bool, true, false, cond, ◌||◌, List, [], ◌∷◌, length, take}
use Rattle.std.proofs.Common.{map, find, slice_get, Some, refl, sym, ap, ◌∙◌, subst, inl, inr}
use Rattle.std.proofs.lemmas.Bool.{and_parts, or_right}
use Rattle.std.proofs.lemmas.Option.{slice_get-map}
use Rattle.std.specs.List.{list_all, list_any}
use Rattle.std.specs.Option.{option_map}
use Rattle.rc_model.specs.Headline.{In}
use Rattle.rc_model.proofs.Members.{place_of}
use Rattle.rc_step_laws.specs.Words.{Begins}
use Rattle.rc_step_laws.proofs.Lists.{get-take, get-begins, get-below}

-- where all pass a test, each does
pub all-each : {X : Type 0} (test : X → Bool) (x : X) (xs : List X) → list_all test xs ≡ true → In x xs → test x ≡ true
all-each test x [] e at = absurd at
all-each test x (y ∷ xs) e (inl same) = ap test same ∙ (and_parts (test y) (list_all test xs) e).0
all-each test x (y ∷ xs) e (inr rest) = all-each test x xs (and_parts (test y) (list_all test xs) e).1 rest

-- where one passes, here it is
pub any-one : {X : Type 0} {test : X → Bool} (xs : List X) → list_any test xs ≡ true → (x : X) × (In x xs) × (test x ≡ true)
any-one [] e = cc
any-one {test} (y ∷ xs) e = by (test y) refl e (any-one xs)
  where
    by : (b : Bool) → test y ≡ b → (b || list_any test xs) ≡ true →
        (list_any test xs ≡ true → (x : _) × (In x xs) × (test x ≡ true)) →
        (x : _) × ((x ≡ y) ⊎ In x xs) × (test x ≡ true)
    by true here e rec = (y, inl refl, here)
    by false here e rec = (let found = rec e in (found.0, inr found.1, found.2))

-- where one passes, the test of the list does
pub any-here : {X : Type 0} (test : X → Bool) (x : X) (xs : List X) → In x xs → test x ≡ true → list_any test xs ≡ true
any-here test x [] at e = absurd at
any-here test x (y ∷ xs) (inl same) e = ap (λ b. b || list_any test xs) (ap test (sym same) ∙ e)
any-here test x (y ∷ xs) (inr rest) e = or_right (test y) (list_any test xs) (any-here test x xs rest e)

-- what is found is one of the list and passes
pub find-one : {X : Type 0} (test : X → Bool) (xs : List X) {x : X} → find test xs ≡ Some x → In x xs × (test x ≡ true)
find-one test [] e = cc
find-one test (y ∷ xs) {x} e = by (test y) refl e (find-one test xs)
  where
    by : (b : Bool) → test y ≡ b → cond b (Some y) (find test xs) ≡ Some x →
        (find test xs ≡ Some x → In x xs × (test x ≡ true)) → ((x ≡ y) ⊎ In x xs) × (test x ≡ true)
    by true here e rec = (let same : y ≡ x = cc in (inl (sym same), ap test (sym same) ∙ here))
    by false here e rec = (let p = rec e in (inr p.0, p.1))

-- what stands in a mapped list is the image of what stands there
pub get-map : {X Y : Type 0} {f : X → Y} (xs : List X) (k : ℕ) {y : Y} → slice_get (map f xs) k ≡ Some y →
    (x : X) × (slice_get xs k ≡ Some x) × (f x ≡ y)
get-map [] k e = cc
get-map {f} (x ∷ xs) zero {y} e = (x, refl, (let same : f x ≡ y = cc in same))
get-map (x ∷ xs) (suc k) e = get-map xs k e

pub map-get : {X Y : Type 0} (f : X → Y) (xs : List X) (k : ℕ) {x : X} → slice_get xs k ≡ Some x → slice_get (map f xs) k ≡ Some (f x)
map-get f xs k e = slice_get-map f xs k ∙ ap (option_map f) e

-- a member of the first so many stands at one of the first places
pub In-take : {X : Type 0} (n : ℕ) (xs : List X) (x : X) → In x (take n xs) → (k : ℕ) × (k < n) × (slice_get xs k ≡ Some x)
In-take n xs x at = let found = place_of (take n xs) x at in let taken = get-take n xs found.0 found.1 in (found.0, taken.0, taken.1)

-- what stands at a place of a list within a beginning of it stood there
pub get-begins_back : {X : Type 0} (xs : List X) {ys : List X} → Begins xs ys → {k : ℕ} {x : X} → k < length xs →
    slice_get ys k ≡ Some x → slice_get xs k ≡ Some x
get-begins_back xs {ys} p {k} {x} less e =
    let found = get-below xs k less in
    let there : slice_get ys k ≡ Some found.0 = get-begins xs p k found.1 in
    let same : found.0 ≡ x = cc in
    subst (λ y. slice_get xs k ≡ Some y) same found.1

-- one more in front of both
pub begins-cons : {X : Type 0} {x : X} (xs : List X) {ys : List X} → Begins xs ys → Begins (x ∷ xs) (x ∷ ys)
begins-cons {x} xs p = (p.0, ap (λ l. x ∷ l) p.1)
