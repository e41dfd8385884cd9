-- The record highs of a key under a term: the place and the version of each entry whose version is above all earlier
-- ones.
use Rattle.std.specs.Prelude.{ℕ, ◌+◌, Bool, nat_le, ◌&&◌, if◌then◌else◌, List, [], ◌∷◌, ◌++◌}
use Rattle.rc_types.specs.declared.entries.Entry.{Entry}
use Rattle.rc_model.specs.Versions.{is_of}

-- the record highs among entries that stand from a place on, where this is the least version above those before them
abbrev pub highs_from : ℕ → ℕ → ℕ → ℕ → ℕ → List Entry → List (ℕ × ℕ)
highs_from term table key place least [] = []
highs_from term table key place least (entry ∷ entries) =
    if is_of term table key entry && nat_le least entry.version
    then (place, entry.version) ∷ highs_from term table key (place + 1) (entry.version + 1) entries
    else highs_from term table key (place + 1) least entries

-- the record highs of a key under a term, with places from 0; its first entry is one, whatever its version
abbrev pub highs_of : ℕ → ℕ → ℕ → List Entry → List (ℕ × ℕ)
highs_of term table key entries = highs_from term table key 0 0 entries

-- the version of the last high, or this one where there is none
abbrev pub last_or : ℕ → List (ℕ × ℕ) → ℕ
last_or version [] = version
last_or version (high ∷ highs) = last_or high.1 highs

-- the version of the last high, 0 where there is none
abbrev pub last_version : List (ℕ × ℕ) → ℕ
last_version highs = last_or 0 highs

-- the least version above the last high, or this one where there is none
abbrev pub above_or : ℕ → List (ℕ × ℕ) → ℕ
above_or least [] = least
above_or least (high ∷ highs) = above_or (high.1 + 1) highs

-- the version is above these highs, which any is where there is none
abbrev pub is_higher : List (ℕ × ℕ) → ℕ → Bool
is_higher highs version = nat_le (above_or 0 highs) version

-- the highs with one more, where its version is above them
abbrev pub with_high : ℕ → ℕ → List (ℕ × ℕ) → List (ℕ × ℕ)
with_high place version highs = if is_higher highs version then highs ++ (place, version) ∷ [] else highs
