-- A file: a save, and a record for each work that was written down since. What a crash leaves of it, and what comes
-- back of that.
use Rattle.std.specs.Prelude.{◌≡◌, ◌≤◌, ◌+◌, ℕ, List, ◌++◌, length, take, drop}
use Rattle.rc_types.specs.declared.events.NodeWork.{NodeWork}
use Rattle.rc_codec.specs.Claims.{BeginsWithNone}
use Rattle.rc_world.specs.NodeView.{NodeData, node_seen}
use Rattle.rc_keeping.specs.Claims.{AreReadFrom}
use Rattle.rc_keeping.specs.Spelling.{record_of, journal_of}
use Rattle.rc_keeping.specs.SaveClaims.{IsLoaded}
use Rattle.rc_keeping.specs.Saved.{Saved, save_of, node_from}

abbrev pub file_of : Saved → List NodeWork → List ℕ
file_of saved works = save_of saved ++ journal_of works

-- What is left where so many bytes were safe: the save, and so many of the works, no fewer than were safe as whole
-- records; and behind them whatever is no record, as the rest of one that was cut off, or zeros.
pub record IsLeft (saved : Saved) (works : List NodeWork) (safe : ℕ) (left : List ℕ) : Type 0 where
  pub count : ℕ
  pub behind : List ℕ
  pub whole : left ≡ file_of saved (take count works) ++ behind
  pub no_record : BeginsWithNone record_of behind
  pub no_more : count ≤ length works
  pub no_less : (k : ℕ) → k ≤ length works → length (file_of saved (take k works)) ≤ safe → k ≤ count

-- so it is where the file was cut off behind what was safe, and its save is there
abbrev pub CutsAreLeft : Type 0
CutsAreLeft = (saved : Saved) (works : List NodeWork) (safe : ℕ) (left lost : List ℕ) →
    file_of saved works ≡ left ++ lost → length (save_of saved) ≤ length left → safe ≤ length left →
    IsLeft saved works safe left

-- the node that was saved, just the works that are left, and how many bytes both take
pub record GivesBack (saved : Saved) (kept : List NodeWork) (node : NodeData) (count : ℕ) (read : List NodeWork)
    (good : ℕ) : Type 0 where
  pub loaded : node_seen node ≡ node_from saved
  pub same : read ≡ kept
  pub bytes : count + good ≡ length (file_of saved kept)

-- Whoever loads what is left, and reads what stands behind the save, has the node that was saved and the works that are
-- left: so all that were safe, in order, and none that was not written.
abbrev pub WhatIsLeftComesBack : Type 0
WhatIsLeftComesBack = (saved : Saved) (works : List NodeWork) (safe : ℕ) (left : List ℕ)
    (is : IsLeft saved works safe left) (node : NodeData) (count : ℕ) (read : List NodeWork) (good : ℕ) →
    IsLoaded left node count → AreReadFrom (drop count left) read good →
    GivesBack saved (take is.count works) node count read good
