-- Ranges of keys: when a key lies in one, and the range of a whole table.
use Rattle.std.specs.Prelude.{ℕ, Bool, nat_eq, nat_le, ◌&&◌}
use Rattle.rc_types.specs.declared.rows.KeyRange.{KeyRange}
use Rattle.rc_types.specs.declared.limits.TheConstants.{LAST_KEY}

-- this key of this table lies in the range
abbrev pub in_range : KeyRange → ℕ → ℕ → Bool
in_range range table key = nat_eq range.table table && (nat_le range.lo key && nat_le key range.hi)

-- all keys of a table
abbrev pub all_keys : ℕ → KeyRange
all_keys table = record { table = table; lo = 0; hi = LAST_KEY }
