-- Lists, tables and tests, over plain variables.
use Rattle.std.proofs.Common.{◌≡◌, ◌⊎◌, ℕ, zero, suc, ◌+◌, ◌<◌, ◌≤◌, List, [], ◌∷◌, ◌++◌, length, drop, take, map, slice_get, slice_set}
use Rattle.std.proofs.Common.{Some, refl, sym, ap, ◌∙◌, subst, inl, inr, arith}
use Rattle.std.proofs.lemmas.List.{append-nil, append_assoc}
use Rattle.rc_step_laws.specs.Words.{Begins}

-- Tables

-- Places of lists

-- what stood in a list stands in a longer one
pub get-left : {X : Type 0} (xs ys : List X) (k : ℕ) {x : X} → slice_get xs k ≡ Some x → slice_get (xs ++ ys) k ≡ Some x
get-left [] ys k e = cc
get-left (y ∷ xs) ys zero e = e
get-left (y ∷ xs) ys (suc k) e = get-left xs ys k e

-- the first behind a list
pub get-end : {X : Type 0} (xs : List X) {x : X} (ys : List X) → slice_get (xs ++ x ∷ ys) (length xs) ≡ Some x
get-end [] ys = refl
get-end (y ∷ xs) ys = get-end xs ys

-- an element of two lists joined is one of the first, or stands in the second
pub get-append : {X : Type 0} (xs ys : List X) (k : ℕ) {x : X} → slice_get (xs ++ ys) k ≡ Some x →
    (slice_get xs k ≡ Some x) ⊎ ((j : ℕ) × (k ≡ length xs + j) × (slice_get ys j ≡ Some x))
get-append [] ys k e = inr (k, omega arith, e)
get-append (y ∷ xs) ys zero e = inl e
get-append (y ∷ xs) ys (suc k) {x} e = further (get-append xs ys k e)
  where
    further : (slice_get xs k ≡ Some x) ⊎ ((j : ℕ) × (k ≡ length xs + j) × (slice_get ys j ≡ Some x))
        → (slice_get xs k ≡ Some x) ⊎ ((j : ℕ) × (suc k ≡ suc (length xs) + j) × (slice_get ys j ≡ Some x))
    further (inl old) = inl old
    further (inr (j, p, q)) = inr (j, omega arith, q)

-- a place of a list without its first elements
pub get-drop : {X : Type 0} (n : ℕ) (xs : List X) (k : ℕ) → slice_get (drop n xs) k ≡ slice_get xs (n + k)
get-drop zero xs k = ap (slice_get xs) (omega arith)
get-drop (suc n) [] k = refl
get-drop (suc n) (x ∷ xs) k = get-drop n xs k ∙ (let e : suc n + k ≡ suc (n + k) = omega arith in ap (slice_get (x ∷ xs)) (sym e))

-- a place of the first elements
pub get-take : {X : Type 0} (n : ℕ) (xs : List X) (k : ℕ) {x : X} → slice_get (take n xs) k ≡ Some x → (k < n) × (slice_get xs k ≡ Some x)
get-take zero xs k e = cc
get-take (suc n) [] k e = cc
get-take (suc n) (y ∷ xs) zero e = (omega arith, e)
get-take (suc n) (y ∷ xs) (suc k) {x} e = let rest : (k < n) × (slice_get xs k ≡ Some x) = get-take n xs k e in (omega arith, rest.1)

-- a place below the length is taken
pub get-below : {X : Type 0} (xs : List X) (k : ℕ) → k < length xs → (x : X) × (slice_get xs k ≡ Some x)
get-below [] k less = absurd (omega arith)
get-below (x ∷ xs) zero less = (x, refl)
get-below (x ∷ xs) (suc k) less = get-below xs k (omega arith)

-- and a place where something stands is below the length
pub get-within : {X : Type 0} (xs : List X) (k : ℕ) {x : X} → slice_get xs k ≡ Some x → k < length xs
get-within [] k e = cc
get-within (y ∷ xs) zero e = omega arith
get-within (y ∷ xs) (suc k) e = let rest : k < length xs = get-within xs k e in omega arith

-- after a change at a place, an element is an old one, or the new one at that place
pub get-set : {X : Type 0} (xs : List X) (j : ℕ) {new : X} (k : ℕ) {x : X} → slice_get (slice_set xs j new) k ≡ Some x →
    (slice_get xs k ≡ Some x) ⊎ ((k ≡ j) × (x ≡ new))
get-set [] j k e = cc
get-set (y ∷ xs) zero {new} zero {x} e = let same : new ≡ x = cc in inr (refl, sym same)
get-set (y ∷ xs) zero (suc k) e = inl e
get-set (y ∷ xs) (suc j) zero e = inl e
get-set (y ∷ xs) (suc j) {new} (suc k) {x} e = further (get-set xs j k e)
  where
    further : (slice_get xs k ≡ Some x) ⊎ ((k ≡ j) × (x ≡ new)) → (slice_get xs k ≡ Some x) ⊎ ((suc k ≡ suc j) × (x ≡ new))
    further (inl old) = inl old
    further (inr (p, q)) = inr (ap suc p, q)

-- and an old one stays, or the new one stands in its place
pub set-get : {X : Type 0} (xs : List X) (j : ℕ) {new : X} (k : ℕ) {x : X} → slice_get xs k ≡ Some x →
    (slice_get (slice_set xs j new) k ≡ Some x) ⊎ ((k ≡ j) × (slice_get (slice_set xs j new) k ≡ Some new))
set-get [] j k e = cc
set-get (y ∷ xs) zero zero e = inr (refl, refl)
set-get (y ∷ xs) zero (suc k) e = inl e
set-get (y ∷ xs) (suc j) zero e = inl e
set-get (y ∷ xs) (suc j) {new} (suc k) {x} e = further (set-get xs j k e)
  where
    further : (slice_get (slice_set xs j new) k ≡ Some x) ⊎ ((k ≡ j) × (slice_get (slice_set xs j new) k ≡ Some new))
        → (slice_get (slice_set xs j new) k ≡ Some x) ⊎ ((suc k ≡ suc j) × (slice_get (slice_set xs j new) k ≡ Some new))
    further (inl old) = inl old
    further (inr (p, q)) = inr (ap suc p, q)

-- Beginnings

-- a beginning is no longer, and has the same at its places
pub begins-length : {X : Type 0} (xs ys : List X) → Begins xs ys → length xs ≤ length ys
begins-length [] ys b = omega arith
begins-length (x ∷ xs) [] b = search arith
begins-length (x ∷ xs) (y ∷ ys) b =
    let e : x ∷ (xs ++ b.0) ≡ y ∷ ys = b.1 in
    let tail : xs ++ b.0 ≡ ys = cc in
    let rest : length xs ≤ length ys = begins-length xs ys (b.0, tail) in
    omega arith

pub get-begins : {X : Type 0} (xs : List X) {ys : List X} → Begins xs ys → (k : ℕ) {x : X} → slice_get xs k ≡ Some x
    → slice_get ys k ≡ Some x
get-begins {X} xs b k {x} e = subst (λ (zs : List X). slice_get zs k ≡ Some x) b.1 (get-left xs b.0 k e)

pub begins-refl : {X : Type 0} {xs : List X} → Begins xs xs
begins-refl {xs} = ([], append-nil xs)

pub begins-trans : {X : Type 0} (xs : List X) {ys zs : List X} → Begins xs ys → Begins ys zs → Begins xs zs
begins-trans {X} xs p q = (p.0 ++ q.0, sym (append_assoc xs p.0 q.0) ∙ (ap (λ (us : List X). us ++ q.0) p.1 ∙ q.1))

-- a map of a beginning is one of the map
pub map-append : {X Y : Type 0} (f : X → Y) (xs ys : List X) → map f (xs ++ ys) ≡ map f xs ++ map f ys
map-append f [] ys = refl
map-append {X} {Y} f (x ∷ xs) ys = ap (λ (rest : List Y). f x ∷ rest) (map-append f xs ys)

pub begins-map : {X Y : Type 0} (f : X → Y) (xs : List X) {ys : List X} → Begins xs ys → Begins (map f xs) (map f ys)
begins-map {X} {Y} f xs b = (map f b.0, sym (map-append f xs b.0) ∙ ap (map f) b.1)
