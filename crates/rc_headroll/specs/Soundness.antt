-- What is true of every log that the code makes.
use Rattle.std.specs.Prelude.{◌≡◌, ℕ, ◌+◌, ◌-◌, ◌<◌, ◌≤◌, Bool, true, false, if◌then◌else◌, zero, suc, List, []}
use Rattle.std.specs.Prelude.{length, All, filter, not, nat_eq}
use Rattle.std.specs.List.{list_any}
use Rattle.rc_types.specs.declared.kept.Phase.TheVariants.{Opening}
use Rattle.rc_types.specs.declared.limits.TheConstants.{LAST_SEGMENT, MAX_FACTOR, MAX_SEGMENT}
use Rattle.rc_model.specs.ServerList.{ServerList}
use Rattle.rc_model.specs.Segment.{Segment}
use Rattle.rc_model.specs.Log.{Log, head_of, is_writing}
use Rattle.rc_headroll.specs.Before.{CanGoBack}
use Rattle.rc_config.specs.Lists.{segment_at, newest_of, previous_of}
use Rattle.rc_headroll.specs.LogData.{LogData, log_of, before_of}
use Rattle.rc_headroll.specs.Watching.{AreWatched, AreRoused}

-- the number is that of a segment
abbrev pub IsKnown : ℕ → ℕ → Type 0
IsKnown head seg = (0 < seg) × (seg ≤ head)

-- the segment has no more entries than fit, and its digest no other segments than those of the log
pub record IsSoundSegment (size head : ℕ) (segment : Segment) : Type 0 where
  pub fits : length segment.entries ≤ size
  pub known : All (IsKnown head) segment.digest

-- all segments below this one are shut: while the head writes the others, and else all but it and the one before it
abbrev pub all_shut_below : Log → ℕ
all_shut_below log = if is_writing log.phase then log.head else log.head - 1

-- how many entries the first so many segments have
abbrev pub entries_to : (ℕ → Segment) → ℕ → ℕ
entries_to segments zero = 0
entries_to segments (suc s) = entries_to segments s + length (segments (suc s)).entries

-- the log is sound; so many segments from the first on were passed, which are shut and durable, and they have so many
-- entries
pub record IsSound (log : Log) (passed entries : ℕ) : Type 0 where
  pub few : log.head ≤ LAST_SEGMENT
  pub factor : log.factor ≤ MAX_FACTOR
  pub size : log.size ≤ MAX_SEGMENT
  pub opening : log.head ≡ 0 → log.phase ≡ Opening
  pub shut : (seg : ℕ) → 0 < seg → seg < all_shut_below log → (log.segments seg).shut ≡ true
  pub head_open : (head_of log).shut ≡ false
  pub each : (seg : ℕ) → 0 < seg → seg ≤ log.head → IsSoundSegment log.size log.head (log.segments seg)
  pub passed_known : passed ≤ log.head
  pub passed_shut : (seg : ℕ) → 0 < seg → seg ≤ passed → (log.segments seg).shut ≡ true
  pub passed_entries : entries ≡ entries_to log.segments passed
  pub passed_durable : entries ≤ log.durable

-- the log is sound, and so is the one that it can go back to
pub record IsSoundLog (kept : LogData) (passed entries : ℕ) : Type 0 where
  pub now : IsSound (log_of kept) passed entries
  pub before : IsSound (before_of kept) kept.mark.passed kept.mark.passed_entries
  pub back : CanGoBack kept.mark (length kept.segments) (segment_at kept.segments)

-- the timer goes over each segment that may want something, and over each that did when the log goes back
pub record IsWatchedLog (kept : LogData) : Type 0 where
  pub now : AreWatched kept.own kept.watch (log_of kept).head (log_of kept).segments
  pub before : AreWatched kept.own kept.watch (before_of kept).head (before_of kept).segments

-- the head's digest leaves none of the old head's segments out, where that is known
pub record IsKnownWhole (segments : List Segment) (whole : Bool) : Type 0 where
  pub none_out : whole ≡ true →
      filter (λ seg. not (list_any (nat_eq seg) (newest_of segments).digest)) (previous_of segments).digest ≡ []

-- each segment that the timer passes over is one about which the list rules do nothing
abbrev pub IsRoused : ServerList → LogData → Type 0
IsRoused servers kept = AreRoused kept.own servers kept.watch (log_of kept).head (log_of kept).segments
