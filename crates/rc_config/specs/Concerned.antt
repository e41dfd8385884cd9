-- Segments that a server list concerns.
use Rattle.std.specs.Prelude.{Bool, ◌||◌}
use Rattle.std.specs.List.{list_any}
use Rattle.rc_model.specs.ServerList.{ServerList, has_crashed}
use Rattle.rc_model.specs.Segment.{Segment}

-- a member of the segment is lost, or the list shows it crashed
abbrev pub is_concerned : ServerList → Segment → Bool
is_concerned servers segment = list_any (λ member. member.lost || has_crashed servers member.id) segment.config.members
