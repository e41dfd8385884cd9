-- The entries that wait to be appended: those of rows that joined, from a cursor on.
use Rattle.std.specs.Prelude.{◌≡◌, ℕ, ◌<◌, ◌≤◌, List, [], ◌∷◌, length, drop, take}
use Rattle.std.specs.List.{flat_map}
use Rattle.rc_types.specs.declared.entries.Entry.{Entry}

-- the entries of all rows
abbrev pub all_waiting : List (List Entry) → List Entry
all_waiting rows = flat_map (λ row. row) rows

-- the entries from a place in the first row on
abbrev pub waiting_from : ℕ → List (List Entry) → List Entry
waiting_from place rows = drop place (all_waiting rows)

-- each list has an element
abbrev pub NoneIsEmpty : List (List Entry) → Type 0
NoneIsEmpty [] = Unit {0}
NoneIsEmpty (entries ∷ lists) = (0 < length entries) × NoneIsEmpty lists

-- the first row has an entry at the place; where there is no row, the place is the first
abbrev pub IsPlace : ℕ → List (List Entry) → Type 0
IsPlace place [] = place ≡ 0
IsPlace place (row ∷ rows) = place < length row

-- the entries that wait, and those that `restore` lets wait again
pub record Waiting : Type 0 where
  pub entries : List Entry
  pub before : List Entry

-- rows, how many of them there were and from which place on, and the row and the place from which on they wait now
pub record IsReplay (rows : List (List Entry)) (kept first row place : ℕ) : Type 0 where
  pub none_empty : NoneIsEmpty rows
  pub kept_within : kept ≤ length rows
  pub row_within : row ≤ length rows
  pub place_before : IsPlace first (take kept rows)
  pub place_now : IsPlace place (drop row rows)
