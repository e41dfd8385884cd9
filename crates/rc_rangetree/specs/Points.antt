-- The order of points: by table, and those of one table by key.
use Rattle.std.specs.Prelude.{◌≡◌, ℕ, ◌<◌, ◌≤◌, List, [], ◌∷◌}
use Rattle.rc_types.specs.declared.rows.Tablet.{Tablet}
use Rattle.rc_rangetree.specs.declared.points.Point.{Point}

-- the key of the table comes before the point
pub record IsBefore (table key : ℕ) (point : Point) : Type 0 where
  pub tables : table ≤ point.table
  pub keys : table ≡ point.table → key < point.key

-- the key of the table is the point or comes after it
pub record IsAtOrAfter (table key : ℕ) (point : Point) : Type 0 where
  pub tables : point.table ≤ table
  pub keys : table ≡ point.table → point.key ≤ key

-- there is a first tablet, and it begins at the point
abbrev pub BeginsAt : Point → List Tablet → Type 0
BeginsAt point [] = ⊥
BeginsAt point (tablet ∷ tablets) = (tablet.range.table ≡ point.table) × (tablet.range.lo ≡ point.key)
