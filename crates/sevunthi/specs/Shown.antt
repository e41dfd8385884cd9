-- What is shown of a node to a caller of C.
use Rattle.std.specs.Prelude.{◌≡◌, ℕ, List, ◌++◌, length, drop, Option, Some, None}
use Rattle.rc_session.specs.declared.info.Info.{Info}
use Rattle.sevunthi.specs.declared.looking.SevunthiInfo.{SevunthiInfo}

abbrev pub shown : Info → SevunthiInfo
shown info = record {
  written = info.written;
  safe = info.safe;
  untaken = info.untaken;
  entries = info.entries;
  generation = info.server.generation;
  head = info.head;
  index = info.server.index;
  runs = info.runs;
  is_deposed = info.is_deposed;
  is_waiting = info.is_waiting;
  is_saving = info.is_saving;
  has_room = info.has_room;
}

-- these bytes stand at the front of the caller's, and are so many
abbrev pub IsGiven : List ℕ → List ℕ → List ℕ → ℕ → Type 0
IsGiven code before after count = (after ≡ code ++ drop (length code) before) × (count ≡ length code)

-- so do these, if there are any; and there are
abbrev pub IsShown : Option (List ℕ) → List ℕ → List ℕ → ℕ → Type 0
IsShown None before after count = ⊥
IsShown (Some code) before after count = IsGiven code before after count
