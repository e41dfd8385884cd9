-- Which of two rows comes first, in words of numbers, and which of a list.
use Rattle.std.specs.Prelude.{◌≡◌, ◌<◌, ◌⊎◌, true, false, List, ◌∷◌, ◌++◌, All}
use Rattle.rc_types.specs.declared.ids.ServerId.{ServerId}
use Rattle.rc_model.specs.Pick.{HeldRow}

-- the lower index, and of one index the lower generation
abbrev pub IsLower : ServerId → ServerId → Type 0
IsLower a b = (a.index < b.index) ⊎ ((a.index ≡ b.index) × (a.generation < b.generation))

-- the greater epoch, then the greater length, then the lower holder
abbrev pub IsLonger : HeldRow → HeldRow → Type 0
IsLonger a b =
    (b.row.epoch < a.row.epoch) ⊎
    ((a.row.epoch ≡ b.row.epoch) ×
    ((b.row.len < a.row.len) ⊎ ((a.row.len ≡ b.row.len) × IsLower a.holder b.holder)))

-- the greater segment, and in one segment as above
abbrev pub IsHigher : HeldRow → HeldRow → Type 0
IsHigher a b = (b.row.seg < a.row.seg) ⊎ ((a.row.seg ≡ b.row.seg) × IsLonger a b)

-- closed before open, and where both are closed or both are open as above
abbrev pub IsBetter : HeldRow → HeldRow → Type 0
IsBetter a b = ((a.row.closed ≡ true) × (b.row.closed ≡ false)) ⊎ ((a.row.closed ≡ b.row.closed) × IsLonger a b)

-- the first of some rows, by the order and then by its place
pub record IsFirst (ComesBefore : HeldRow → HeldRow → Type 0) (rows : List HeldRow) (first : HeldRow) : Type 0 where
  pub earlier : List HeldRow
  pub later : List HeldRow
  -- it is one of them
  pub place : rows ≡ earlier ++ first ∷ later
  -- none of them comes before it
  pub least : All (λ row. ¬ ComesBefore row first) rows
  -- and it comes before each that stands earlier
  pub before_earlier : All (λ row. ComesBefore first row) earlier
