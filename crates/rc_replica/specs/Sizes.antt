-- How much a replica holds.
use Rattle.std.specs.Prelude.{ℕ, List, length, Option, Some, None}
use Rattle.std.specs.List.{sum_by}
use Rattle.rc_types.specs.declared.entries.Entry.{Entry}

-- how many bytes a value has; a deletion has none
abbrev pub value_len : Option (List ℕ) → ℕ
value_len None = 0
value_len (Some bytes) = length bytes

-- the bytes of the values of these entries
abbrev pub value_bytes : List Entry → ℕ
value_bytes entries = sum_by (λ entry. value_len entry.value) entries
