-- What is promised of a journal.
use Rattle.std.specs.Prelude.{◌≡◌, ℕ, List, ◌++◌, length, drop}
use Rattle.rc_history.specs.Events.{StartsWith}
use Rattle.rc_codec.specs.Claims.{BeginsWithNone}
use Rattle.rc_types.specs.declared.events.NodeWork.{NodeWork}
use Rattle.rc_keeping.specs.Spelling.{record_of, journal_of}

-- these works are what the bytes have up to the first record that is damaged or cut short, and so many bytes are theirs
pub record AreReadFrom (bytes : List ℕ) (works : List NodeWork) (good : ℕ) : Type 0 where
  pub count : good ≡ length (journal_of works)
  pub whole : bytes ≡ journal_of works ++ drop good bytes
  -- what follows begins with no record
  pub ends : BeginsWithNone record_of (drop good bytes)

-- what was written is read back
abbrev pub WrittenIsReadBack : Type 0
WrittenIsReadBack = (written works : List NodeWork) (good : ℕ) →
    AreReadFrom (journal_of written) works good → works ≡ written

-- of a journal that was cut, a beginning of what was written
abbrev pub CutGivesABeginning : Type 0
CutGivesABeginning = (written works : List NodeWork) (cut lost : List ℕ) (good : ℕ) →
    journal_of written ≡ cut ++ lost → AreReadFrom cut works good → StartsWith written works

-- whatever stands behind it, all that was written before
abbrev pub WhatStandsBeforeIsRead : Type 0
WhatStandsBeforeIsRead = (written works : List NodeWork) (damaged : List ℕ) (good : ℕ) →
    AreReadFrom (journal_of written ++ damaged) works good → StartsWith works written
