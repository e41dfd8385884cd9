-- How a log goes on: heads are opened and rolled, entries appended, what members tell is noted, and lost ones are
-- replaced. It says who is to be sent what, and sends nothing.
use Rattle.std.specs.Prelude.{ℕ, ◌+◌, ◌-◌, Bool, true, false, not, nat_eq, nat_lt, nat_le, ◌&&◌, ◌||◌, if◌then◌else◌}
use Rattle.std.specs.Prelude.{List, [], ◌∷◌, ◌++◌, length, map, filter, Option, Some, None, Result, Ok, Err}
use Rattle.std.specs.List.{list_any, fold}
use Rattle.std.specs.Option.{option_map_or}
use Rattle.rc_types.specs.declared.ids.ServerId.{ServerId}
use Rattle.rc_types.specs.declared.entries.Entry.{Entry}
use Rattle.rc_types.specs.declared.kept.Phase.TheVariants.{Opening, Closing, Writing}
use Rattle.rc_types.specs.declared.faults.Fault.{Fault}
use Rattle.rc_types.specs.declared.faults.Fault.TheVariants.{Rolling, NoBackups, LogFull}
use Rattle.rc_types.specs.declared.limits.TheConstants.{LAST_SEGMENT}
use Rattle.rc_model.specs.Tables.{put}
use Rattle.rc_model.specs.ServerList.{ServerList}
use Rattle.rc_model.specs.Config.{Config, choose, notes, noted, committed_at, all_placed, lose, refill}
use Rattle.rc_model.specs.Segment.{new_segment, with_entry, under_new_epoch, is_ready, is_all_closed}
use Rattle.rc_model.specs.Log.{Log, head_of, with_segment, has_segment, has_old_head, old_head_of, is_opening}
use Rattle.rc_model.specs.Log.{is_closing, is_writing}

-- Opening a head, and appending to it

-- a head is opened with this digest on these members
abbrev pub opens_head : Log → List ℕ → List ServerId → Log
opens_head log digest ids =
    let seg = log.head + 1 in
    record log { head = seg; segments = put log.segments seg (new_segment seg digest ids); phase = Opening }

-- a head with this digest on these members, if they can be chosen
abbrev pub opened_on : Log → List ℕ → Option (List ServerId) → Log × Result Bool Fault
opened_on log digest chosen = option_map_or (λ ids. (opens_head log digest ids, Ok true)) chosen (log, Err NoBackups)

-- the first head: segment 1, alone in its digest
abbrev pub open_first : ServerList → Log → Log × Result Bool Fault
open_first servers log = opened_on log (1 ∷ []) (choose 1 log.own log.factor servers)

abbrev pub is_full : Log → Bool
is_full log = nat_le log.size (length (head_of log).entries)

-- an entry goes to the end of the head
abbrev pub appends : Entry → Bool → Log → Log
appends entry client log = with_segment log.head (with_entry entry client (head_of log)) log

-- why nothing can be appended, if so: the phase, the last segment is full, or the head is full
abbrev pub append_fault : Log → Option Fault
append_fault log =
    if not (is_writing log.phase) then Some Rolling
    else (if not (is_full log) then None else (if nat_lt log.head LAST_SEGMENT then Some Rolling else Some LogFull))

-- the digest of the next head: that of the head without the dead segments, and with the new one; the head itself is
-- never dead
abbrev pub next_digest : Log → List ℕ → List ℕ
next_digest log dead =
    filter (λ seg. nat_eq seg log.head || not (list_any (nat_eq seg) dead)) (head_of log).digest ++ (log.head + 1) ∷ []

-- a roll begins: the next segment is opened, unless this is the last one or no members can be chosen
abbrev pub begin_roll : ServerList → List ℕ → Log → Log × Result Bool Fault
begin_roll servers dead log =
    if nat_lt log.head LAST_SEGMENT
    then opened_on log (next_digest log dead) (choose (log.head + 1) log.own log.factor servers)
    else (log, Err LogFull)

-- What members tell

abbrev pub with_config : ℕ → Config → Log → Log
with_config seg config log = with_segment seg (record (log.segments seg) { config = config }) log

-- a Stored, and a commit, are for a segment's config; for an unknown segment they do nothing
abbrev pub notes_stored : Log → ℕ → ServerId → ℕ → Bool
notes_stored log seg from epoch = has_segment log seg && notes from epoch (log.segments seg).config

abbrev pub stored : ℕ → ServerId → ℕ → ℕ → Bool → Log → Log
stored seg from epoch len closed log =
    if has_segment log seg then with_config seg (noted from epoch len closed (log.segments seg).config) log else log

abbrev pub commit_noted : ℕ → ℕ → Log → Log
commit_noted seg epoch log =
    if has_segment log seg then with_config seg (committed_at epoch (log.segments seg).config) log else log

-- Lost members

-- of an open segment: a change of members, and all of them are to be sent a Place
abbrev pub opens_change : ℕ → Log → Config × Result Bool Fault → Log × Result (List ServerId) Fault
opens_change seg log (config, Ok true) =
    (with_segment seg (under_new_epoch config (log.segments seg)) log, Ok (map (λ member. member.id) config.members))
opens_change seg log (config, Ok false) = (with_config seg config log, Ok [])
opens_change seg log (config, Err fault) = (with_config seg config log, Err fault)

-- of a shut segment: the lost ones are replaced, and the new ones are to be sent a Place
abbrev pub refills : ℕ → Log → Config × Result (List ServerId) Fault → Log × Result (List ServerId) Fault
refills seg log (config, answer) = (with_config seg config log, answer)

abbrev pub loses : ServerList → ℕ → Log → Log × Result (List ServerId) Fault
loses servers seg log =
    if (log.segments seg).shut then refills seg log (refill log.own servers (log.segments seg).config)
    else opens_change seg log (lose log.own servers (log.segments seg).config)

-- Going on

-- the old head is shut once it is closed on all members of a committed epoch
abbrev pub shuts : Log → Bool
shuts log = has_old_head log && is_all_closed (old_head_of log)

abbrev pub with_shut : Log → Log
with_shut log = if shuts log then with_segment (log.head - 1) (record (old_head_of log) { shut = true }) log else log

-- the first head writes once it is placed on all its members, under a committed epoch
abbrev pub may_start : Log → Bool
may_start log = is_opening log.phase && (nat_eq log.head 1 && is_ready (head_of log))

-- the old head is closed once the new one is placed on all its members
abbrev pub may_close : Log → Bool
may_close log = is_opening log.phase && (has_old_head log && all_placed (head_of log).config)

-- the new head writes once the old one is shut and the new one is placed on all its members, under a committed epoch
abbrev pub may_write : Log → Bool
may_write log = is_closing log.phase && (has_old_head log && ((old_head_of log).shut && is_ready (head_of log)))

-- the segments that the old head's digest has and the new one's lacks, ascending as they stand there
abbrev pub left_out : Log → List ℕ
left_out log = filter (λ seg. not (list_any (nat_eq seg) (head_of log).digest)) (old_head_of log).digest

-- these segments are marked freed
abbrev pub with_freed : List ℕ → Log → Log
with_freed segs log = fold (λ now seg. with_segment seg (record (now.segments seg) { freed = true }) now) log segs

abbrev pub starts : Log → Log
starts log = record log { phase = Writing }

abbrev pub closes_old : Log → Log
closes_old log = record log { phase = Closing }

abbrev pub writes_on : Log → Log
writes_on log = with_freed (left_out log) (record log { phase = Writing })
