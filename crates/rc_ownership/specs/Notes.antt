-- The notes of a log, and the tables beside them.
use Rattle.std.specs.Prelude.{◌≡◌, ℕ, ◌≤◌, Bool, List, length, take}
use Rattle.rc_types.specs.declared.entries.Entry.{Entry}
use Rattle.rc_model.specs.Ownership.{count_under}
use Rattle.rc_ownership.specs.declared.highs.Slot.{Slot}
use Rattle.rc_ownership.specs.Counts.{CountTable, count_in, AreKnown}
use Rattle.rc_ownership.specs.Groups.{AreBounds}
use Rattle.rc_ownership.specs.Highs.{highs_of}
use Rattle.rc_ownership.specs.Marks.{marked}
use Rattle.rc_ownership.specs.Slots.{HighTable, highs_in}
use Rattle.rc_ownership.specs.Tops.{tops_of}

-- the entries that were noted, of each whether the replay had handed it out, and how many of them, from the first on,
-- are durable; and these as `restore` lets them be again
pub record Noted : Type 0 where
  pub noted : List Entry
  pub replayed : List Bool
  pub durable : ℕ
  pub noted_before : List Entry
  pub replayed_before : List Bool
  pub durable_before : ℕ

-- the durable entries that the replay had handed out
abbrev pub replayed_in : Noted → List Entry
replayed_in notes = marked (take notes.durable notes.replayed) (take notes.durable notes.noted)

-- the tables are those of the entries
pub record AreTablesOf {A : Type 0} (noted : List Entry) (replayed : List Bool) (durable : ℕ) (highs : HighTable A)
    (counts : CountTable) : Type 0 where
  pub within : durable ≤ length noted
  pub each_marked : length replayed ≡ length noted
  pub highs_are : (slot : Slot) → highs_in highs slot ≡ highs_of slot.term slot.table slot.key noted
  pub counts_are : (term : ℕ) →
      count_in counts term ≡ count_under term (marked (take durable replayed) (take durable noted))
  pub known : AreKnown counts noted

-- notes, and how many of them there were and were durable when `begin` was called
pub record AreNotes {A : Type 0} (noted : List Entry) (replayed : List Bool) (durable kept kept_durable : ℕ)
    (highs : HighTable A) (counts : CountTable) (tops bounds : List ℕ) : Type 0 where
  pub tables : AreTablesOf noted replayed durable highs counts
  pub kept_within : kept ≤ length noted
  pub durable_within : kept_durable ≤ kept
  pub tops_are : tops ≡ tops_of noted
  pub bounds_are : AreBounds noted durable bounds
