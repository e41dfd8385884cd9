-- The parts that every coding is made of: a number, a flag, bytes, what may be absent, a list. Each is
-- one list of bytes, and no list of bytes that begins with it codes anything else.
use Rattle.std.specs.Prelude.{◌≡◌, ℕ, zero, suc, ◌/◌, ◌%◌, List, [], ◌∷◌, ◌++◌, length, take, Bool, true, false, Option}
use Rattle.std.specs.Prelude.{Some, None}
use Rattle.std.specs.List.{flat_map}

-- a number in one byte and so many more: the least byte first, and the last has what is left
abbrev pub number : ℕ → ℕ → List ℕ
number zero n = n ∷ []
number (suc more) n = n % 256 ∷ number more (n / 256)

abbrev pub byte : ℕ → List ℕ
byte = number 0

abbrev pub two_bytes : ℕ → List ℕ
two_bytes = number 1

abbrev pub four_bytes : ℕ → List ℕ
four_bytes = number 3

abbrev pub eight_bytes : ℕ → List ℕ
eight_bytes = number 7

-- 1 where it holds, 0 where it doesn't
abbrev pub flag : Bool → List ℕ
flag false = 0 ∷ []
flag true = 1 ∷ []

-- how many bytes there are, in eight bytes, and the bytes
abbrev pub bytes : List ℕ → List ℕ
bytes xs = eight_bytes (length xs) ++ xs

-- 0 where there is none; 1 and what there is
abbrev pub optional : {A : Type 0} → (A → List ℕ) → Option A → List ℕ
optional code None = 0 ∷ []
optional code (Some x) = 1 ∷ code x

-- how many there are, in eight bytes, and each of them
abbrev pub listed : {A : Type 0} → (A → List ℕ) → List A → List ℕ
listed code xs = eight_bytes (length xs) ++ flat_map code xs

-- the second list begins with the first
unfoldable pub Begins : List ℕ → List ℕ → Type 0
Begins xs ys = take (length xs) ys ≡ xs
