-- The rows of a part as they are kept: in order, and what is counted beside them.
use Rattle.std.specs.Prelude.{◌≡◌, ℕ, zero, suc, ◌<◌, not, List, [], ◌∷◌, length, filter, is_some, None}
use Rattle.std.specs.List.Sorted.{IsNonDecreasingBy}
use Rattle.rc_model.specs.Ownership.{PartRow, entries_that_came}

-- how many rows have not come
abbrev pub count_missing : List PartRow → ℕ
count_missing rows = length (filter (λ row. not (is_some row.came)) rows)

-- how many entries a part has, once it waits for no row
abbrev pub size_of : List PartRow → ℕ → ℕ
size_of [] count = count
size_of (row ∷ rows) count = 0

-- no row stands after one of a higher segment
abbrev pub AreInOrder : List PartRow → Type 0
AreInOrder rows = IsNonDecreasingBy (λ row. row.seg) rows

-- rows in order, and what is counted beside them: those that haven't come, and the entries of those that have
pub record AreCounted (rows : List PartRow) (missing count : ℕ) : Type 0 where
  pub in_order : AreInOrder rows
  pub missing_are : missing ≡ count_missing rows
  pub entries_are : 0 < length rows → count ≡ length (entries_that_came rows)

-- the rows, where the one at a place has not come
abbrev pub awaited_again : ℕ → List PartRow → List PartRow
awaited_again place [] = []
awaited_again zero (row ∷ rows) = record row { came = None } ∷ rows
awaited_again (suc place) (row ∷ rows) = row ∷ awaited_again place rows
