-- What holds of the list of tablets: they are in order, they do not overlap, each table that is
-- there is covered from its first key to its last, and there are at most 1,024 of them.
use Rattle.std.specs.Prelude.{◌≡◌, ◌+◌, ◌<◌, ◌≤◌, List, [], ◌∷◌, length}
use Rattle.rc_types.specs.declared.limits.TheConstants.{LAST_KEY, MAX_TABLETS}
use Rattle.rc_types.specs.declared.rows.KeyRange.{KeyRange}
use Rattle.rc_types.specs.declared.rows.Tablet.{Tablet}

-- the second range comes right after the first: either their table goes on with the next key, or
-- the first has the last key of its table, and the second begins a later table at key 0
pub record Follows (range next : KeyRange) : Type 0 where
  pub in_order : range.table ≤ next.table
  pub goes_on : range.table ≡ next.table → next.lo ≡ range.hi + 1
  pub ends : range.table < next.table → range.hi ≡ LAST_KEY
  pub begins : range.table < next.table → next.lo ≡ 0

-- each range has a key, each tablet follows the one before it, and the last has its table's last key
abbrev pub CoversFrom : Tablet → List Tablet → Type 0
CoversFrom tablet [] = (tablet.range.lo ≤ tablet.range.hi) × (tablet.range.hi ≡ LAST_KEY)
CoversFrom tablet (next ∷ tablets) =
    (tablet.range.lo ≤ tablet.range.hi) × Follows tablet.range next.range × CoversFrom next tablets

-- each table that is there is covered from key 0 to 18446744073709551615, in order and without overlaps
abbrev pub CoverTables : List Tablet → Type 0
CoverTables [] = Unit {0}
CoverTables (tablet ∷ tablets) = (tablet.range.lo ≡ 0) × CoversFrom tablet tablets

-- the first range lies before the second: in an earlier table, or in the same table with lower keys
pub record LiesBefore (range other : KeyRange) : Type 0 where
  pub tables : range.table ≤ other.table
  pub keys : range.table ≡ other.table → range.hi < other.lo

-- the tablet lies before each of these
abbrev pub LiesBeforeAll : Tablet → List Tablet → Type 0
LiesBeforeAll tablet [] = Unit {0}
LiesBeforeAll tablet (other ∷ tablets) = LiesBefore tablet.range other.range × LiesBeforeAll tablet tablets

-- each range has a key, and each tablet lies before all later ones
abbrev pub AreInOrder : List Tablet → Type 0
AreInOrder [] = Unit {0}
AreInOrder (tablet ∷ tablets) = (tablet.range.lo ≤ tablet.range.hi) × LiesBeforeAll tablet tablets × AreInOrder tablets

-- what the tablets of a tree are: in order and without overlaps, covering the tables that are there,
-- and at most 1,024
pub record AreTablets (tablets : List Tablet) : Type 0 where
  pub in_order : AreInOrder tablets
  pub covering : CoverTables tablets
  pub few : length tablets ≤ MAX_TABLETS
