-- Lists that begin with others.
use Rattle.std.proofs.Common.{◌≡◌, ℕ, zero, suc, ◌⊎◌, inl, inr, List, [], ◌∷◌, ◌++◌, Some, slice_get, refl, sym, ap, ◌∙◌, append_assoc}
use Rattle.std.proofs.lemmas.List.{append-nil}
use Rattle.rc_history.specs.Events.{StartsWith}

-- each list begins with itself
pub starts-same : {A : Type 0} {xs : List A} → StartsWith xs xs
starts-same {xs} = record { rest = []; same = sym (append-nil xs) }

-- and with each of its parts at its front
pub starts-append : {A : Type 0} {xs : List A} (ys : List A) → StartsWith (xs ++ ys) xs
starts-append ys = record { rest = ys; same = refl }

-- what begins with a list begins with what that one begins with
pub starts-through : {A : Type 0} {xs ys zs : List A} → StartsWith xs ys → StartsWith ys zs → StartsWith xs zs
starts-through {zs} one two = record {
  rest = two.rest ++ one.rest;
  same = one.same ∙ (ap (λ l. l ++ one.rest) two.same ∙ append_assoc zs two.rest one.rest);
}

-- what stands in the front part keeps its place
pub get-append : {A : Type 0} (xs ys : List A) (n : ℕ) {x : A} → slice_get xs n ≡ Some x → slice_get (xs ++ ys) n ≡ Some x
get-append [] ys n found = cc
get-append (y ∷ xs) ys zero found = found
get-append (y ∷ xs) ys (suc n) found = get-append xs ys n found

pub starts-get : {A : Type 0} {xs ys : List A} (n : ℕ) {x : A} → StartsWith xs ys → slice_get ys n ≡ Some x → slice_get xs n ≡ Some x
starts-get {ys} n starts found = ap (λ l. slice_get l n) starts.same ∙ get-append ys starts.rest n found

nothing_last : {A : Type 0} (xs ys : List A) (x : A) → xs ++ x ∷ ys ≡ [] → ⊥
nothing_last [] ys x e = cc
nothing_last (y ∷ xs) ys x e = cc

-- an element of a list with one more at its end is that one, or stands in the list
pub push-parts : {A : Type 0} (xs front back : List A) {last x : A} → xs ++ last ∷ [] ≡ front ++ x ∷ back →
    ((xs ≡ front) × (last ≡ x)) ⊎ ((rest : List A) × (xs ≡ front ++ x ∷ rest))
push-parts [] [] back e = inl (refl, cc)
push-parts [] (y ∷ front) back {x} e =
    let none : [] ≡ front ++ x ∷ back = cc in absurd (nothing_last front back x (sym none))
push-parts (z ∷ xs) [] back e = inr (xs, cc)
push-parts (z ∷ xs) (y ∷ front) back {last} {x} e =
    let head : z ≡ y = cc in
    let tail : xs ++ last ∷ [] ≡ front ++ x ∷ back = cc in
    elim (push-parts xs front back tail) [
      | inl same ↦ inl ((let s : xs ≡ front = same.0 in cc), same.1)
      | inr same ↦ inr (same.0, (let s : xs ≡ front ++ x ∷ same.0 = same.1 in cc))
    ]
