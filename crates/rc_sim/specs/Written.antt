-- What a writer holds after a call: a text that comes of the input, or the beginning of one.
use Rattle.std.specs.Prelude.{ℕ, ◌<◌, List, length, take, Option}
use Rattle.std.specs.Io.KnownBytes.{Appends}
use Rattle.rc_sim.specs.declared.verdicts.Verdict.{Verdict}

-- this was answered, and a text that comes with it was written, and nothing else
abbrev pub IsWritten : (Verdict → List ℕ → Type 0) → Verdict → Option (List ℕ) → Option (List ℕ) → Type 0
IsWritten Comes verdict old new = (text : List ℕ) × Comes verdict text × Appends old new text

-- so many bytes of a text that comes of it were written, and not all
abbrev pub IsBegun : (Verdict → List ℕ → Type 0) → ℕ → Option (List ℕ) → Option (List ℕ) → Type 0
IsBegun Comes count old new = (verdict : Verdict) × (text : List ℕ) × Comes verdict text × (count < length text) ×
    Appends old new (take count text)
