-- What a list that grows begins with.
use Rattle.std.proofs.Common.{◌≡◌, ℕ, List, [], ◌∷◌, ◌++◌, length, take, refl, sym, ap, subst, ◌∙◌}
use Rattle.rc_codec.specs.Parts.{Begins}

front_of : (xs ys : List ℕ) → take (length xs) (xs ++ ys) ≡ xs
front_of [] ys = refl
front_of (x ∷ xs) ys = ap (λ zs. x ∷ zs) (front_of xs ys)

shorter : (xs ys zs : List ℕ) → take (length (xs ++ ys)) zs ≡ xs ++ ys → take (length xs) zs ≡ xs
shorter [] ys zs h = refl
shorter (x ∷ xs) ys [] h = absurd cc
shorter (x ∷ xs) ys (z ∷ zs) h = let head : z ≡ x = cc in let rest : take (length (xs ++ ys)) zs ≡ xs
    ++ ys = cc in rw (head, shorter xs ys zs rest) refl

nothing_after : (xs : List ℕ) → xs ++ [] ≡ xs
nothing_after [] = refl
nothing_after (x ∷ xs) = ap (λ zs. x ∷ zs) (nothing_after xs)

-- what was not changed
pub begins_same : (xs ys : List ℕ) → ys ≡ xs → Begins xs ys
unfolding Begins
begins_same xs ys h = rw h (ap (take (length xs)) (sym (nothing_after xs)) ∙ front_of xs [])

-- what begins with a longer list begins with the shorter one
pub begins_after : (xs more ys zs : List ℕ) → ys ≡ xs ++ more → Begins ys zs → Begins xs zs
unfolding Begins
begins_after xs more ys zs e h = shorter xs more zs (subst (λ (l : List ℕ). take (length l) zs ≡ l) e h)
