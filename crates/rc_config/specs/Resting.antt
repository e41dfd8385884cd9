-- Segments of which their master's timer says nothing.
use Rattle.std.specs.Prelude.{Bool, List, is_some, ◌&&◌, ◌||◌}
use Rattle.std.specs.List.{list_all}
use Rattle.rc_types.specs.declared.kept.Member.{Member}
use Rattle.rc_model.specs.Segment.{Segment}

-- each of these members has told something, lost or not
abbrev pub have_told : List Member → Bool
have_told members = list_all (λ member. is_some member.told) members

-- the segment is shut under a committed epoch, and was freed or each of its members has told something
abbrev pub wants_nothing : Segment → Bool
wants_nothing segment =
    segment.shut && (segment.config.committed && (segment.freed || have_told segment.config.members))
