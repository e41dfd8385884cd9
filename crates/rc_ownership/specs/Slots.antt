-- The table of record highs by slot.
use Rattle.std.specs.Prelude.{ℕ, Bool, nat_eq, ◌&&◌, List, [], Vec}
use Rattle.std.specs.Option.{option_map_or}
use Rattle.std.specs.declared.hash.FoldHasher.{FoldHasher}
use Rattle.std.specs.declared.hash.BuildHasherDefault.{BuildHasherDefault}
use Rattle.indexmap.specs.IndexMap.{IndexMap, get}
use Rattle.rc_types.specs.declared.entries.Entry.{Entry}
use Rattle.rc_ownership.specs.declared.highs.Slot.{Slot}

abbrev pub same_slot : Slot → Slot → Bool
same_slot one other = nat_eq one.term other.term && (nat_eq one.table other.table && nat_eq one.key other.key)

-- the slot of an entry
abbrev pub slot_of : Entry → Slot
slot_of entry = record { term = entry.term; table = entry.table; key = entry.key }

abbrev pub HighTable : Type 0 → Type 0
HighTable A = IndexMap Slot (Vec (ℕ × ℕ) A) (BuildHasherDefault FoldHasher)

-- the highs of a slot, none of one that is not in the table
abbrev pub highs_in : {A : Type 0} → HighTable A → Slot → List (ℕ × ℕ)
highs_in highs slot = option_map_or (λ list. list.items) (get same_slot highs slot) []
