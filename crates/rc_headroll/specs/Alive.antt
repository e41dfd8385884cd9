-- Segments of which an entry was found that isn't outdated.
use Rattle.std.specs.Prelude.{◌≡◌, ℕ, ◌≤◌, Bool, true, not, nat_eq, ◌&&◌, List, length, map, take, slice_get, Option}
use Rattle.std.specs.Prelude.{Some}
use Rattle.std.specs.List.{list_any}
use Rattle.rc_types.specs.declared.entries.Entry.{Entry}
use Rattle.rc_model.specs.Segment.{Segment}
use Rattle.rc_model.specs.Log.{places_to}
use Rattle.rc_model.specs.Versions.{is_outdated}
use Rattle.rc_config.specs.Lists.{segment_at}
use Rattle.rc_ownership.specs.Groups.{group_of}
use Rattle.rc_ownership.specs.Slots.{slot_of}
use Rattle.rc_headroll.specs.declared.alive.AliveEntry.{AliveEntry}

-- one of the entries is of the group, and isn't outdated by the durable ones
abbrev pub has_alive : List Entry → ℕ → List (Entry × Bool) → Bool
has_alive durable group entries =
    list_any (λ one. nat_eq (group_of (slot_of one.0)) group && not (is_outdated durable one.0)) entries

-- these entries of a segment have such a one by the first so many entries of the log
pub record IsFound (all : List Entry) (entries : List (Entry × Bool)) (found : AliveEntry) : Type 0 where
  pub within : found.durable ≤ length all
  pub alive : has_alive (take found.durable all) found.group entries ≡ true

-- the entries of these segments, in order
abbrev pub entries_in : List Segment → List Entry
entries_in segments = map (λ place. place.entry) (places_to (segment_at segments) (length segments))

-- so has each segment of which one was found, by its number
pub record AreFound (segments : List Segment) (found : List (Option AliveEntry)) : Type 0 where
  pub each : (seg : ℕ) (one : AliveEntry) → slice_get found seg ≡ Some (Some one) →
      IsFound (entries_in segments) (segment_at segments seg).entries one
