-- Durable places, by the masters' views at the moments of a history.
use Rattle.std.specs.Prelude.{ℕ, ◌-◌, ◌<◌, ◌≤◌, Bool, true, nat_lt, ◌&&◌, List, length, take, IsTrue, zero, suc}
use Rattle.rc_types.specs.declared.ids.ServerId.{ServerId}
use Rattle.rc_types.specs.declared.events.Setup.{Setup}
use Rattle.rc_types.specs.declared.events.Event.{Event}
use Rattle.rc_model.specs.Config.{durable_len}
use Rattle.rc_model.specs.Segment.{Segment}
use Rattle.rc_model.specs.Log.{Log, has_segment}
use Rattle.rc_model.specs.World.{replay, master_of}

-- every segment from 1 to this one is shut
abbrev pub all_shut_to : (ℕ → Segment) → ℕ → Bool
all_shut_to segments zero = true
all_shut_to segments (suc s) = (segments (suc s)).shut && all_shut_to segments s

-- the segment's epoch is committed, none of its members is known lost, each has told a length above the offset under
-- it, and each earlier segment is shut
abbrev pub is_stored_on_all : Log → ℕ → ℕ → Bool
is_stored_on_all log s o =
    has_segment log s && (nat_lt o (durable_len (log.segments s).config) && all_shut_to log.segments (s - 1))

-- a master's log after the first so many events
abbrev pub log_after : Setup → List Event → ServerId → ℕ → Log
log_after setup events m n = (master_of (replay setup (take n events)) m).log

-- the place was stored on all at this moment
abbrev pub WasStored : Setup → List Event → ServerId → ℕ → ℕ → ℕ → Type 0
WasStored setup events m n s o = IsTrue (is_stored_on_all (log_after setup events m n) s o)

-- at this moment each place of the earlier segments had been
abbrev pub EarlierWereStored : Setup → List Event → ServerId → ℕ → ℕ → Type 0
EarlierWereStored setup events m n s =
    (t o : ℕ) → 0 < t → t < s → o < length ((log_after setup events m n).segments t).entries →
    (k : ℕ) × (k ≤ n) × WasStored setup events m k t o

-- a place is durable once and for good: at one moment it is stored on all, and all places of earlier segments have been
pub record IsDurable (setup : Setup) (events : List Event) (m : ServerId) (s o : ℕ) : Type 0 where
  pub moment : ℕ
  pub happened : moment ≤ length events
  pub stored : WasStored setup events m moment s o
  pub earlier : EarlierWereStored setup events m moment s
