-- What callers see of a tree, how deep it is, and how many forks a search in it passes.
use Rattle.std.specs.Prelude.{ℕ, ◌-◌, max, Bool, nat_eq, nat_lt, nat_le, ◌&&◌, ◌||◌, List, [], ◌∷◌, slice_index}
use Rattle.std.specs.List.{count_by}
use Rattle.rc_types.specs.declared.rows.Tablet.{Tablet}

-- the tablets in order, and for each of them the number of forks on the way from the root to it
pub record Tree : Type 0 where
  pub tablets : List Tablet
  pub forks : List ℕ

-- the greatest of these numbers, and 0 where there is none
abbrev pub greatest : List ℕ → ℕ
greatest [] = 0
greatest (number ∷ numbers) = max number (greatest numbers)

-- the greatest number of forks on a way from the root to a tablet
abbrev pub depth : Tree → ℕ
depth tree = greatest tree.forks

-- the tablet begins at this key of the table, or before it
abbrev pub begins_by : ℕ → ℕ → Tablet → Bool
begins_by table key tablet =
    nat_lt tablet.range.table table || (nat_eq tablet.range.table table && nat_le tablet.range.lo key)

-- the number of forks that a search for the key passes: those above the last tablet that begins at
-- the key or before it, or above the first tablet where none does
abbrev pub forks_passed : ℕ → ℕ → Tree → ℕ
forks_passed table key tree = slice_index tree.forks (count_by (begins_by table key) tree.tablets - 1)
