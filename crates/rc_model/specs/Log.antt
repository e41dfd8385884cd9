-- A master's log: its segments, of which the newest is the head, its places, and how much of it is durable.
use Rattle.std.specs.Prelude.{ℕ, ◌+◌, ◌-◌, Bool, true, false, nat_lt, nat_le, ◌&&◌, if◌then◌else◌, List, [], ◌∷◌}
use Rattle.std.specs.Prelude.{◌++◌, length, map, filter, not, zero, suc}
use Rattle.rc_types.specs.declared.ids.ServerId.{ServerId}
use Rattle.rc_types.specs.declared.entries.Entry.{Entry}
use Rattle.rc_types.specs.declared.kept.Phase.{Phase}
use Rattle.rc_types.specs.declared.kept.Phase.TheVariants.{Opening, Closing, Writing}
use Rattle.rc_model.specs.Tables.{put}
use Rattle.rc_model.specs.Segment.{Segment, no_segment, durable_in}

pub record Log : Type 0 where
  -- whose log it is, how many replicas each segment has, and how many entries a segment takes
  pub own : ServerId
  pub factor : ℕ
  pub size : ℕ
  -- the newest segment, 0 before the first; and the segments up to it
  pub head : ℕ
  pub segments : ℕ → Segment
  pub phase : Phase
  -- how many places are durable, counted from the log's first one
  pub durable : ℕ

abbrev pub new_log : ServerId → ℕ → ℕ → Log
new_log own factor size =
    record { own = own; factor = factor; size = size; head = 0; segments = no_segment; phase = Opening; durable = 0 }

abbrev pub head_of : Log → Segment
head_of log = log.segments log.head

abbrev pub with_segment : ℕ → Segment → Log → Log
with_segment seg segment log = record log { segments = put log.segments seg segment }

-- the segment is one of this log
abbrev pub has_segment : Log → ℕ → Bool
has_segment log seg = nat_lt 0 seg && nat_le seg log.head

-- there is a segment before the head
abbrev pub has_old_head : Log → Bool
has_old_head log = nat_lt 1 log.head

abbrev pub old_head_of : Log → Segment
old_head_of log = log.segments (log.head - 1)

-- the numbers 1 to this one
abbrev pub numbers_to : ℕ → List ℕ
numbers_to zero = []
numbers_to (suc n) = numbers_to n ++ suc n ∷ []

abbrev pub is_opening : Phase → Bool
is_opening Opening = true
is_opening _ = false

abbrev pub is_closing : Phase → Bool
is_closing Closing = true
is_closing _ = false

abbrev pub is_writing : Phase → Bool
is_writing Writing = true
is_writing _ = false

-- The places of a log, in order

pub record LogPlace : Type 0 where
  pub seg : ℕ
  pub offset : ℕ
  pub entry : Entry
  -- a client wrote it
  pub client : Bool

-- the places of these entries of a segment, of which the first stands at the offset
abbrev pub places_in : ℕ → ℕ → List (Entry × Bool) → List LogPlace
places_in seg offset [] = []
places_in seg offset (one ∷ others) =
    record { seg = seg; offset = offset; entry = one.0; client = one.1 } ∷ places_in seg (offset + 1) others

abbrev pub places_to : (ℕ → Segment) → ℕ → List LogPlace
places_to segments zero = []
places_to segments (suc s) = places_to segments s ++ places_in (suc s) 0 (segments (suc s)).entries

abbrev pub places_of : Log → List LogPlace
places_of log = places_to log.segments log.head

-- the entries of the log, in order
abbrev pub entries_of : Log → List Entry
entries_of log = map (λ place. place.entry) (places_of log)

-- the entries at these places that no client wrote: those that were taken out of the replay
abbrev pub replayed_at : List LogPlace → List Entry
replayed_at places = map (λ place. place.entry) (filter (λ place. not place.client) places)

-- How much of it is durable at this moment: each shut segment, up to the first that isn't, and of that what all
-- members have.

abbrev pub durable_among : List Segment → ℕ
durable_among [] = 0
durable_among (segment ∷ segments) =
    if segment.shut then length segment.entries + durable_among segments else durable_in segment

abbrev pub durable_now : Log → ℕ
durable_now log = durable_among (map log.segments (numbers_to log.head))
