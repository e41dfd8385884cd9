-- Which segments of a log its master's timer has to go over.
use Rattle.std.specs.Prelude.{◌≡◌, ℕ, ◌<◌, ◌≤◌, Bool, true, false, not, is_none, ◌&&◌, ◌||◌, List, Option, Some, None}
use Rattle.std.specs.Ordering.{nat_cmp}
use Rattle.std.specs.List.{list_any, list_all}
use Rattle.std.specs.Map.{lookup}
use Rattle.std.specs.BTreeMap.{is_at}
use Rattle.rc_types.specs.declared.ids.ServerId.{ServerId}
use Rattle.rc_types.specs.declared.kept.Member.{Member}
use Rattle.rc_model.specs.Ids.{same_id}
use Rattle.rc_model.specs.ServerList.{ServerList, has_crashed}
use Rattle.rc_model.specs.Config.{Config, substitutes_for}
use Rattle.rc_model.specs.Segment.{Segment}
use Rattle.rc_config.specs.Concerned.{is_concerned}
use Rattle.rc_config.specs.Resting.{wants_nothing}

-- the number is one of these
abbrev pub has_number : List ℕ → ℕ → Bool
has_number numbers seg = list_any (is_at (nat_cmp seg)) numbers

-- segments that are stuck, and the list under which they are
pub record StuckUnder : Type 0 where
  pub segs : List ℕ
  pub servers : ServerList

pub record Watched : Type 0 where
  -- the segments that are gone over
  pub awake : List ℕ
  -- the others that weren't freed and lack no member, by their members
  pub filed : List (ServerId × List ℕ)
  -- those whose lost members nobody can replace
  pub stuck : StuckUnder

abbrev pub is_awake : Watched → ℕ → Bool
is_awake watch seg = has_number watch.awake seg

-- the number is one of these, if there are any
abbrev pub is_among : Option (List ℕ) → ℕ → Bool
is_among None seg = false
is_among (Some numbers) seg = has_number numbers seg

-- the number is under the id, in this file
abbrev pub is_under : List (ServerId × List ℕ) → ServerId → ℕ → Bool
is_under filed id seg = is_among (lookup (same_id id) filed) seg

-- the segment is filed under the id
abbrev pub is_filed : Watched → ServerId → ℕ → Bool
is_filed watch id seg = is_under watch.filed id seg

-- none of the members is lost, and the segment is filed under each
abbrev pub is_filed_whole : Watched → ℕ → List Member → Bool
is_filed_whole watch seg members = list_all (λ member. not member.lost && is_filed watch member.id seg) members

-- each of these members that the list shows crashed is known lost
abbrev pub are_marked : ServerList → List Member → Bool
are_marked servers members = list_all (λ member. member.lost || not (has_crashed servers member.id)) members

-- members are lost whom nobody of the list can replace, and it shows none of the others crashed
abbrev pub is_helpless : ServerId → ServerList → Config → Bool
is_helpless own servers config = are_marked servers config.members && is_none (substitutes_for own servers config)

-- the segment is stuck under the list for which that was found
abbrev pub is_stuck : ServerId → Watched → ℕ → Config → Bool
is_stuck own watch seg config = has_number watch.stuck.segs seg && is_helpless own watch.stuck.servers config

-- a list that concerns the segment finds it again
abbrev pub is_findable : ServerId → Watched → ℕ → Config → Bool
is_findable own watch seg config = is_filed_whole watch seg config.members || is_stuck own watch seg config

-- the segment was freed, or a list that concerns it finds it again
abbrev pub is_on_file : ServerId → Watched → ℕ → Segment → Bool
is_on_file own watch seg segment = segment.freed || is_findable own watch seg segment.config

-- the segment is gone over, or it wants nothing and is on file
abbrev pub is_watched : ServerId → Watched → ℕ → Segment → Bool
is_watched own watch seg segment = is_awake watch seg || (wants_nothing segment && is_on_file own watch seg segment)

-- so is each segment up to the head
abbrev pub AreWatched : ServerId → Watched → ℕ → (ℕ → Segment) → Type 0
AreWatched own watch head segments =
    (seg : ℕ) → 0 < seg → seg ≤ head → is_watched own watch seg (segments seg) ≡ true

-- the list rules do nothing about the segment: it was freed, or the list doesn't concern it, or it is shut and the list
-- has nobody for its lost members
abbrev pub is_let_be : ServerId → ServerList → Segment → Bool
is_let_be own servers segment =
    segment.freed || (not (is_concerned servers segment) || (segment.shut && is_helpless own servers segment.config))

-- each segment that isn't gone over is one about which the list rules do nothing
abbrev pub AreRoused : ServerId → ServerList → Watched → ℕ → (ℕ → Segment) → Type 0
AreRoused own servers watch head segments =
    (seg : ℕ) → 0 < seg → seg ≤ head → (is_awake watch seg || is_let_be own servers (segments seg)) ≡ true
