-- Where a log goes back to: how it was when a step began.
use Rattle.std.specs.Prelude.{◌≡◌, ℕ, ◌+◌, ◌<◌, ◌≤◌, Bool, true, nat_eq, nat_lt, nat_le, ◌&&◌, if◌then◌else◌, Option}
use Rattle.std.specs.Prelude.{Some, None, is_some, is_none, List, [], ◌∷◌, ◌++◌, length, ◌-◌, slice_get}
use Rattle.std.specs.Prelude.{option_map}
use Rattle.std.specs.Map.{lookup}
use Rattle.rc_types.specs.declared.kept.Phase.{Phase}
use Rattle.rc_types.specs.declared.kept.Phase.TheVariants.{Opening}
use Rattle.rc_model.specs.Segment.{Segment, no_segment}
use Rattle.rc_config.specs.declared.state.SegmentState.{SegmentState}
use Rattle.rc_config.specs.States.{state_of, with_state}

-- a segment of which nothing was kept is as it was
abbrev pub as_it_was : Option SegmentState → Segment → Segment
as_it_was None segment = segment
as_it_was (Some state) segment = with_state state segment

pub record Mark : Type 0 where
  -- how many segments there were, the phase, and how much was durable
  pub head : ℕ
  pub phase : Phase
  pub durable : ℕ
  -- how many segments were passed, and how many entries those have
  pub passed : ℕ
  pub passed_entries : ℕ
  -- how the newest segment was, the one before it, and those of the others that a step was about to change
  pub newest : Option SegmentState
  pub previous : Option SegmentState
  pub others : List (ℕ × SegmentState)

-- the mark of a log with no segment
abbrev pub first_mark : Mark
first_mark = record {
  head = 0;
  phase = Opening;
  durable = 0;
  passed = 0;
  passed_entries = 0;
  newest = None;
  previous = None;
  others = [];
}

-- how the segment is that stands so many places before the end of the list
abbrev pub state_at : List Segment → ℕ → Option SegmentState
state_at segments back =
    if nat_lt (length segments) back then None else option_map state_of (slice_get segments (length segments - back))

-- the mark of a log that is now as these say
abbrev pub mark_of : List Segment → Phase → ℕ → ℕ → ℕ → Mark
mark_of segments phase durable passed passed_entries = record {
  head = length segments;
  phase = phase;
  durable = durable;
  passed = passed;
  passed_entries = passed_entries;
  newest = state_at segments 1;
  previous = state_at segments 2;
  others = [];
}

-- what was kept of another segment than the last two
abbrev pub other_of : List (ℕ × SegmentState) → ℕ → Option SegmentState
other_of others seg = lookup (nat_eq seg) others

-- what was kept of a segment
abbrev pub kept_of : Mark → ℕ → Option SegmentState
kept_of mark seg =
    if nat_eq seg mark.head then mark.newest
    else (if nat_eq (seg + 1) mark.head then mark.previous else other_of mark.others seg)

-- the segment is one of those that there were
abbrev pub was_there : Mark → ℕ → Bool
was_there mark seg = nat_lt 0 seg && nat_le seg mark.head

-- the segments as they were
unfoldable pub segments_before : Mark → (ℕ → Segment) → ℕ → Segment
segments_before mark segments seg =
    if was_there mark seg then as_it_was (kept_of mark seg) (segments seg) else no_segment seg

-- how a segment is now is kept, unless something was kept before, or it is one of the last two, or newer
abbrev pub with_kept : ℕ → SegmentState → Mark → Mark
with_kept seg state mark =
    if nat_lt (seg + 1) mark.head && is_none (other_of mark.others seg)
    then record mark { others = mark.others ++ (seg, state) ∷ [] } else mark

-- what was kept of other segments than the last two, and room for it: for each number below this one
pub record OthersKept : Type 0 where
  pub kept : List (ℕ × SegmentState)
  pub room : ℕ

-- where something stands that was kept is noted under its number, so no number is kept twice
abbrev pub ArePlaced : List ℕ → List (ℕ × SegmentState) → Type 0
ArePlaced places kept =
    (place seg : ℕ) (state : SegmentState) → slice_get kept place ≡ Some (seg, state) →
    slice_get places seg ≡ Some place

-- where a log goes back to, and room for what will be kept of others than the last two
pub record WayBack : Type 0 where
  pub mark : Mark
  pub room : ℕ

-- nothing more has to be kept before the segment is changed
abbrev pub IsKept : Mark → ℕ → Type 0
IsKept mark seg = seg ≤ mark.head → is_some (kept_of mark seg) ≡ true

-- how many entries are kept
abbrev pub kept_len : Option SegmentState → ℕ
kept_len None = 0
kept_len (Some state) = state.len

-- one segment is put back
unfoldable pub one_back : ℕ → Option SegmentState → (ℕ → Segment) → ℕ → Segment
one_back seg kept segments other =
    if nat_lt 0 seg && nat_eq seg other then as_it_was kept (segments other) else segments other

-- one that is not among the last two is put back
unfoldable pub other_back : ℕ → ℕ → SegmentState → (ℕ → Segment) → ℕ → Segment
other_back head seg state segments other =
    if nat_lt 0 seg && nat_lt (seg + 1) head then one_back seg (Some state) segments other else segments other

-- all of these that are not among the last two are put back
unfoldable pub others_back : ℕ → List (ℕ × SegmentState) → (ℕ → Segment) → ℕ → Segment
others_back head others segments seg =
    if nat_lt 0 seg && nat_lt (seg + 1) head then as_it_was (other_of others seg) (segments seg) else segments seg

-- the log can go back: what is kept of a segment is of a beginning of it, and the last two segments are kept
pub record CanGoBack (mark : Mark) (head : ℕ) (segments : ℕ → Segment) : Type 0 where
  pub known : mark.head ≤ head
  pub beginnings : (seg : ℕ) → kept_len (kept_of mark seg) ≤ length (segments seg).entries
  pub last : (seg : ℕ) → 0 < seg → mark.head ≤ seg + 1 → IsKept mark seg
