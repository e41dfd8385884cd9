-- The entries that came for a row, in pieces.
use Rattle.std.specs.Prelude.{◌≡◌, ℕ, ◌<◌, ◌≤◌, List, [], ◌∷◌, ◌++◌, length}
use Rattle.rc_types.specs.declared.entries.Entry.{Entry}
use Rattle.rc_ownership.specs.Replay.{all_waiting}
use Rattle.rc_ownership.specs.declared.pieces.TheConstants.{PIECE}

-- no piece has more entries than a piece may
abbrev pub NoneIsLong : List (List Entry) → Type 0
NoneIsLong [] = Unit {0}
NoneIsLong (piece ∷ pieces) = (length piece ≤ PIECE) × NoneIsLong pieces

-- a list is a piece and the rest
pub record IsSplit (all piece rest : List Entry) : Type 0 where
  pub whole : all ≡ piece ++ rest
  pub short : length piece ≤ PIECE

-- and the piece isn't empty
pub record IsCut (all piece rest : List Entry) : Type 0 where
  pub whole : all ≡ piece ++ rest
  pub some : 0 < length piece
  pub short : length piece ≤ PIECE

-- pieces, none of them long, and how many entries they have together
pub record ArePieces (first : List Entry) (others : List (List Entry)) (count : ℕ) : Type 0 where
  pub first_short : length first ≤ PIECE
  pub others_short : NoneIsLong others
  pub counted : count ≡ length (first ++ all_waiting others)
