-- Numbers in bytes: as the machine writes them, and where too few bytes stand.
use Rattle.std.proofs.Common.{◌≡◌, ℕ, zero, suc, ◌+◌, ◌<◌, ◌^◌, List, [], ◌∷◌, length, None, refl, arith}
use Rattle.std.specs.Int.{w32, w64, to_le_bytes}
use Rattle.rc_codec.specs.Parts.{number}
use Rattle.rc_codec.specs.Reading.{number_at}

pub number_short : (more : ℕ) (xs : List ℕ) → length xs < more + 1 → number_at more xs ≡ None
number_short more [] h = refl
number_short zero (x ∷ xs) h = absurd (omega arith)
number_short (suc more) (x ∷ xs) h = rw (number_short more xs (omega arith)) refl

-- a list is known by its elements
cells : (a b : ℕ) (xs ys : List ℕ) → a ≡ b → xs ≡ ys → a ∷ xs ≡ b ∷ ys
cells a b xs ys e f = rw (e, f) refl

pub four_are_le : (n : ℕ) → n < 2 ^ 32 → to_le_bytes w32 n ≡ number 3 n
four_are_le n h = cells _ _ _ _ (omega arith) (cells _ _ _ _ (omega arith) (cells _ _ _ _ (omega arith) (cells _ _ _ _ (omega arith) refl)))

pub eight_are_le : (n : ℕ) → n < 2 ^ 64 → to_le_bytes w64 n ≡ number 7 n
eight_are_le n h = cells _ _ _ _ (omega arith) (cells _ _ _ _ (omega arith) (cells _ _ _ _ (omega arith) (cells _ _ _ _ (omega arith)
    (cells _ _ _ _ (omega arith) (cells _ _ _ _ (omega arith) (cells _ _ _ _ (omega arith) (cells _ _ _ _ (omega arith) refl)))))))
