-- Ascending lists of numbers, each of which is there once.
use Rattle.std.specs.Prelude.{ℕ, nat_eq, nat_lt, if◌then◌else◌, List, [], ◌∷◌}

-- the number is put into an ascending list, once
abbrev pub insert_once : ℕ → List ℕ → List ℕ
insert_once n [] = n ∷ []
insert_once n (m ∷ ms) = if nat_lt n m then n ∷ m ∷ ms else (if nat_eq n m then m ∷ ms else m ∷ insert_once n ms)

-- the different numbers of a list, ascending
abbrev pub ascending : List ℕ → List ℕ
ascending [] = []
ascending (n ∷ ns) = insert_once n (ascending ns)
