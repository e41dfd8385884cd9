-- The table of how many durable entries each term has.
use Rattle.std.specs.Prelude.{ℕ, ◌<◌, nat_eq, List, length, slice_index_or, unwrap_or}
use Rattle.std.specs.Option.{IsSome}
use Rattle.std.specs.declared.hash.FoldHasher.{FoldHasher}
use Rattle.std.specs.declared.hash.BuildHasherDefault.{BuildHasherDefault}
use Rattle.indexmap.specs.IndexMap.{IndexMap, get}
use Rattle.rc_types.specs.declared.entries.Entry.{Entry}

abbrev pub CountTable : Type 0
CountTable = IndexMap ℕ ℕ (BuildHasherDefault FoldHasher)

-- the count of a term, 0 of one that is not in the table
abbrev pub count_in : CountTable → ℕ → ℕ
count_in counts term = unwrap_or (get nat_eq counts term) 0

-- the term of each entry is in the table
abbrev pub AreKnown : CountTable → List Entry → Type 0
AreKnown counts entries = (place : ℕ) (other : Entry) → place < length entries →
    IsSome (get nat_eq counts (slice_index_or entries place other).term)
