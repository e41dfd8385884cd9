-- The granted ranges, as a table by term.
use Rattle.std.specs.Prelude.{ℕ, List, map}
use Rattle.rc_types.specs.declared.kept.GrantedRange.{GrantedRange}
use Rattle.rc_types.specs.declared.rows.KeyRange.{KeyRange}
use Rattle.rc_model.specs.Ownership.{Ownership, owns_nothing}

abbrev pub granted_range : ℕ × KeyRange → GrantedRange
granted_range entry = record { range = entry.1; term = entry.0 }

-- the grants of a table's entries
abbrev pub grants_in : List (ℕ × KeyRange) → List GrantedRange
grants_in entries = map granted_range entries

-- who was granted these and has nothing else
abbrev pub owner_of : List GrantedRange → Ownership
owner_of grants = record owns_nothing { grants = grants }
