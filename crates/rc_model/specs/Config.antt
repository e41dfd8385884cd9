-- The members of a segment under an epoch, and what they have told: which backups take part in it, and how that
-- changes.
use Rattle.std.specs.Prelude.{ℕ, ◌+◌, ◌-◌, ◌%◌, Bool, true, false, not, nat_eq, nat_lt, ◌&&◌, ◌||◌, if◌then◌else◌}
use Rattle.std.specs.Prelude.{List, [], ◌∷◌, ◌++◌, length, take, drop, min, max, map, filter, find, Option, Some}
use Rattle.std.specs.Prelude.{None, option_map, is_some, Result, Ok, Err, option_and_then}
use Rattle.std.specs.Option.{option_map_or}
use Rattle.std.specs.List.{list_all, list_any}
use Rattle.rc_types.specs.declared.ids.ServerId.{ServerId}
use Rattle.rc_types.specs.declared.kept.Member.{Member}
use Rattle.rc_types.specs.declared.kept.Told.{Told}
use Rattle.rc_types.specs.declared.faults.Fault.{Fault}
use Rattle.rc_types.specs.declared.faults.Fault.TheVariants.{NoBackups, EpochsExhausted}
use Rattle.rc_types.specs.declared.limits.TheConstants.{LAST_EPOCH}
use Rattle.rc_model.specs.Ids.{same_id}
use Rattle.rc_model.specs.ServerList.{ServerList, up, has_crashed}

pub record Config : Type 0 where
  -- the segment, from whose number the members are counted
  pub seg : ℕ
  pub members : List Member
  pub epoch : ℕ
  -- the epoch is committed at the coordinator, which epoch 0 is from the start
  pub committed : Bool

-- Choosing members

-- the ids of other hosts than this one
abbrev pub of_other_hosts : ℕ → List ServerId → List ServerId
of_other_hosts index ids = filter (λ id. not (nat_eq id.index index)) ids

-- who may be a member: the ids that are up on other hosts, counted from the segment's place on
abbrev pub candidates : ℕ → ServerId → ServerList → List ServerId
candidates seg own servers =
    let ids = of_other_hosts own.index (up servers) in
    let place = (seg - 1) % length ids in drop place ids ++ take place ids

-- the first so many of them; none where there are too few
abbrev pub choose : ℕ → ServerId → ℕ → ServerList → Option (List ServerId)
choose seg own factor servers =
    let ids = candidates seg own servers in if nat_lt (length ids) factor then None else Some (take factor ids)

-- a member that has told nothing yet
abbrev pub new_member : ServerId → Member
new_member id = record { id = id; lost = false; told = None }

-- a segment's first members, under epoch 0
abbrev pub new_config : ℕ → List ServerId → Config
new_config seg ids = record { seg = seg; members = map new_member ids; epoch = 0; committed = true }

-- What members tell

-- under one epoch the greatest length and a closed mark stay
abbrev pub told_with : Option Told → ℕ → Bool → Told
told_with None len closed = record { len = len; closed = closed }
told_with (Some told) len closed = record { len = max told.len len; closed = told.closed || closed }

-- the member is this id, and isn't known lost
abbrev pub is_heard : ServerId → Member → Bool
is_heard from member = same_id from member.id && not member.lost

abbrev pub told_if_heard : ServerId → ℕ → Bool → Member → Member
told_if_heard from len closed member =
    if is_heard from member then record member { told = Some (told_with member.told len closed) } else member

-- a Stored is noted: of a member that isn't lost, under the current epoch
abbrev pub notes : ServerId → ℕ → Config → Bool
notes from epoch config = nat_eq epoch config.epoch && list_any (is_heard from) config.members

abbrev pub noted : ServerId → ℕ → ℕ → Bool → Config → Config
noted from epoch len closed config =
    if nat_eq epoch config.epoch then record config { members = map (told_if_heard from len closed) config.members }
    else config

-- a commit of the current epoch is noted
abbrev pub committed_at : ℕ → Config → Config
committed_at epoch config = if nat_eq epoch config.epoch then record config { committed = true } else config

-- the member isn't lost and has told something
abbrev pub is_placed : Member → Bool
is_placed member = not member.lost && is_some member.told

abbrev pub all_placed : Config → Bool
all_placed config = list_all is_placed config.members

abbrev pub told_closed : Option Told → Bool
told_closed told = option_map_or (λ one. one.closed) told false

-- the member isn't lost and has told that its replica is closed
abbrev pub is_closed : Member → Bool
is_closed member = not member.lost && told_closed member.told

abbrev pub all_closed : Config → Bool
all_closed config = list_all is_closed config.members

-- some member is lost
abbrev pub any_lost : List Member → Bool
any_lost members = list_any (λ member. member.lost) members

-- the length that a member told, 0 where it told none
abbrev pub told_len : Option Told → ℕ
told_len told = option_map_or (λ one. one.len) told 0

-- the least length told by these, which are not none
abbrev pub least_told : List Member → ℕ
least_told [] = 0
least_told (member ∷ []) = told_len member.told
least_told (member ∷ other ∷ members) = min (told_len member.told) (least_told (other ∷ members))

-- how many entries all members have told, where the epoch is committed and no member is lost
abbrev pub durable_len : Config → ℕ
durable_len config = if config.committed && not (any_lost config.members) then least_told config.members else 0

-- Lost members

-- each member that the list shows crashed is known lost
abbrev pub lost_if_crashed : ServerList → Member → Member
lost_if_crashed servers member = if has_crashed servers member.id then record member { lost = true } else member

abbrev pub with_lost : ServerList → Config → Config
with_lost servers config = record config { members = map (lost_if_crashed servers) config.members }

-- the ids of the members that aren't lost
abbrev pub staying : List Member → List ServerId
staying members = map (λ member. member.id) (filter (λ member. not member.lost) members)

-- the first candidate on a host of which none of these is
abbrev pub first_free : List ServerId → List ServerId → Option ServerId
first_free ids taken = find (λ id. not (list_any (λ other. nat_eq id.index other.index) taken)) ids

-- for each lost member, in member order, the first candidate that is free then; none where one finds no candidate
abbrev pub substitutes : List ServerId → List ServerId → List Member → Option (List ServerId)
substitutes ids taken [] = Some []
substitutes ids taken (member ∷ members) =
    if member.lost
    then option_and_then (λ id. option_map (λ others. id ∷ others) (substitutes ids (id ∷ taken) members))
    (first_free ids taken)
    else substitutes ids taken members

-- the substitutes for the lost members of a segment
abbrev pub substitutes_for : ServerId → ServerList → Config → Option (List ServerId)
substitutes_for own servers config =
    substitutes (candidates config.seg own servers) (staying config.members) config.members

-- each lost member gives its position to the next of these
abbrev pub replaced : List Member → List ServerId → List Member
replaced [] ids = []
replaced (member ∷ members) [] = member ∷ members
replaced (member ∷ members) (id ∷ ids) =
    if member.lost then new_member id ∷ replaced members ids else member ∷ replaced members (id ∷ ids)

-- Changing members: an open segment takes a fresh epoch, under which nobody has told anything

abbrev pub changed : Config → List ServerId → Config
changed config ids =
    let members = map (λ member. new_member member.id) (replaced config.members ids) in
    record config { members = members; epoch = config.epoch + 1; committed = false }

-- the change begins, where all lost members can be replaced and an epoch is left
abbrev pub changes_to : Config → Option (List ServerId) → Config × Result Bool Fault
changes_to config None = (config, Err NoBackups)
changes_to config (Some ids) =
    if nat_lt config.epoch LAST_EPOCH then (changed config ids, Ok true) else (config, Err EpochsExhausted)

-- members that the list shows crashed are lost; where a member is lost a change begins
abbrev pub lose : ServerId → ServerList → Config → Config × Result Bool Fault
lose own servers config =
    let marked = with_lost servers config in
    if any_lost marked.members then changes_to marked (substitutes_for own servers marked) else (marked, Ok false)

-- Refilling: a shut segment keeps its epoch, and what its staying members have told

abbrev pub refills_with : Config → Option (List ServerId) → Config × Result (List ServerId) Fault
refills_with config None = (config, Err NoBackups)
refills_with config (Some ids) = (record config { members = replaced config.members ids }, Ok ids)

-- members that the list shows crashed are lost, and the lost ones are replaced; the answer is who is new
abbrev pub refill : ServerId → ServerList → Config → Config × Result (List ServerId) Fault
refill own servers config =
    let marked = with_lost servers config in refills_with marked (substitutes_for own servers marked)
