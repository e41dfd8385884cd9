-- Sums over bytes: by eight, and by one where fewer than eight are left.
use Rattle.std.proofs.Common.{◌≡◌, ◌<◌, ◌≤◌, ℕ, List, [], ◌∷◌, length, take, drop, refl, arith}
use Rattle.std.specs.Int.{w64, from_le_bytes}
use Rattle.rc_keeping.specs.Spelling.{sum_with, sum_from}

pub eight : (sum : ℕ) (xs : List ℕ) → 8 ≤ length xs →
    sum_from sum xs ≡ sum_from (sum_with sum (from_le_bytes w64 (take 8 xs))) (drop 8 xs)
unfolding sum_from
eight sum (a ∷ b ∷ c ∷ d ∷ e ∷ f ∷ g ∷ h ∷ rest) long = refl
eight sum xs long = absurd (omega arith)

pub one : (sum b : ℕ) (rest : List ℕ) → length rest < 7 → sum_from sum (b ∷ rest) ≡ sum_from (sum_with sum b) rest
unfolding sum_from
one sum b [] h = refl
one sum b (c ∷ []) h = refl
one sum b (c ∷ d ∷ []) h = refl
one sum b (c ∷ d ∷ e ∷ []) h = refl
one sum b (c ∷ d ∷ e ∷ f ∷ []) h = refl
one sum b (c ∷ d ∷ e ∷ f ∷ g ∷ []) h = refl
one sum b (c ∷ d ∷ e ∷ f ∷ g ∷ i ∷ []) h = refl
one sum b (c ∷ d ∷ e ∷ f ∷ g ∷ i ∷ j ∷ rest) h = absurd (omega arith)
