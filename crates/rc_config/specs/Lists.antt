-- The segments of a log in a list, of which the first is segment 1.
use Rattle.std.specs.Prelude.{ℕ, ◌-◌, zero, suc, List, length, slice_index_or}
use Rattle.rc_model.specs.Segment.{Segment, no_segment}

-- the segment of this number; one that was never opened has none
unfoldable pub segment_at : List Segment → ℕ → Segment
segment_at segments zero = no_segment zero
segment_at segments (suc place) = slice_index_or segments place (no_segment (suc place))

-- the newest one, which is the head
abbrev pub newest_of : List Segment → Segment
newest_of segments = segment_at segments (length segments)

-- the one before it, which is the old head
abbrev pub previous_of : List Segment → Segment
previous_of segments = segment_at segments (length segments - 1)
