-- How few members a master's open segments have left.
use Rattle.std.specs.Prelude.{ℕ, min, if◌then◌else◌, length, Option, Some, None, zero, suc}
use Rattle.rc_model.specs.Segment.{Segment}
use Rattle.rc_model.specs.Log.{Log}
use Rattle.rc_model.specs.Master.{not_lost}

-- the lesser of two numbers, where there are two
abbrev pub lesser : Option ℕ → ℕ → ℕ
lesser None count = count
lesser (Some fewest) count = min fewest count

-- how few with this segment too: its members that aren't lost, where it is open
abbrev pub fewest_with : Option ℕ → Segment → Option ℕ
fewest_with fewest segment =
    if segment.shut then fewest else Some (lesser fewest (length (not_lost segment.config.members)))

-- how few among the first so many segments
abbrev pub fewest_to : (ℕ → Segment) → ℕ → Option ℕ
fewest_to segments zero = None
fewest_to segments (suc s) = fewest_with (fewest_to segments s) (segments (suc s))

-- the fewest members that aren't lost of an open segment; none where no segment is open
abbrev pub fewest_members : Log → Option ℕ
fewest_members log = fewest_to log.segments log.head
