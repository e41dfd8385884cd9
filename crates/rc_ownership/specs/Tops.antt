-- The greatest version so far, at each noted entry.
use Rattle.std.specs.Prelude.{ℕ, ◌-◌, ◌^◌, ◌<◌, nat_lt, if◌then◌else◌, List, [], ◌∷◌}
use Rattle.std.specs.List.{All}
use Rattle.rc_types.specs.declared.entries.Entry.{Entry}

-- the greater of two versions
abbrev pub higher : ℕ → ℕ → ℕ
higher one other = if nat_lt one other then other else one

-- the greatest version up to each of these entries, where this one is the greatest before them
abbrev pub tops_from : ℕ → List Entry → List ℕ
tops_from top [] = []
tops_from top (entry ∷ entries) = higher top entry.version ∷ tops_from (higher top entry.version) entries

abbrev pub tops_of : List Entry → List ℕ
tops_of entries = tops_from 0 entries

-- the last of them, or this one where there is none
abbrev pub top_or : ℕ → List ℕ → ℕ
top_or top [] = top
top_or top (next ∷ tops) = top_or next tops

-- each entry leaves room for one more version in 64 bits
abbrev pub LeaveRoom : List Entry → Type 0
LeaveRoom entries = All (λ entry. entry.version < 2 ^ 64 - 1) entries
