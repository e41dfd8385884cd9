-- The coordinator's step: new tables, splits, its timer, and what each input does.
use Rattle.std.specs.Prelude.{ℕ, ◌+◌, Bool, not, nat_eq, nat_le, ◌&&◌, if◌then◌else◌, List, [], ◌∷◌, ◌++◌, length}
use Rattle.std.specs.Prelude.{filter, Option, Some, None}
use Rattle.std.specs.List.{list_any}
use Rattle.std.specs.Option.{option_map_or}
use Rattle.rc_types.specs.Ranges.{all_keys}
use Rattle.rc_types.specs.declared.ids.ServerId.{ServerId}
use Rattle.rc_types.specs.declared.ids.Addr.{Addr}
use Rattle.rc_types.specs.declared.ids.Addr.TheVariants.{Server}
use Rattle.rc_types.specs.declared.rows.Part.{Part}
use Rattle.rc_types.specs.declared.rows.Tablet.{Tablet}
use Rattle.rc_types.specs.declared.kept.Grant.{Grant}
use Rattle.rc_types.specs.declared.faults.Fault.{Fault}
use Rattle.rc_types.specs.declared.faults.Fault.TheVariants.{NotReady, TableExists, TooManyTablets, NoTable}
use Rattle.rc_types.specs.declared.faults.Fault.TheVariants.{BadSplit, Recovering}
use Rattle.rc_types.specs.declared.limits.TheConstants.{MAX_TABLETS}
use Rattle.rc_types.specs.declared.messages.Message.{Message}
use Rattle.rc_types.specs.declared.messages.Body.{Body}
use Rattle.rc_types.specs.declared.messages.Body.TheVariants.{Enlist, Ready, Commit, Replicas, Recovered, Gather}
use Rattle.rc_types.specs.declared.messages.Body.TheVariants.{SplitOk}
use Rattle.rc_model.specs.Messages.{to_each, coordinator_refuses, coordinator_tells}
use Rattle.rc_model.specs.ServerList.{is_up, up}
use Rattle.rc_model.specs.Tablets.{tablet_of, has_table, with_table, split_at}
use Rattle.rc_model.specs.Attempts.{Decision, Attempt, has_answered, parts_of, plan_messages}
use Rattle.rc_model.specs.Coordinator.{Coordinator, spreads_list, enlists, notes_ready, commits_pair}
use Rattle.rc_model.specs.Deciding.{is_current, keeps_answer, grants_anew, takes_recovered}

-- Tables

-- the grant of a new table
abbrev pub first_grant : ℕ → ServerId → ℕ → Grant
first_grant table owner term =
    record { range = all_keys table; term = term; previous = 0; attempt = 0; owner = owner }

-- the table goes to its owner under a fresh term
abbrev pub creates_table : Coordinator → ℕ → ServerId → Coordinator × List Message
creates_table c table owner =
    let term = c.last_term + 1 in
    grants_anew (record c { last_term = term }) (with_table table owner term c.tablets) (first_grant table owner term)

abbrev pub is_too_many : List Tablet → Bool
is_too_many tablets = nat_le MAX_TABLETS (length tablets)

-- refused where the owner isn't up and ready, where the table is there, or where there are too many tablets
abbrev pub creates : Coordinator → ℕ → ServerId → Coordinator × List Message
creates c table owner =
    if not (is_up c.servers owner && c.ready owner) then (c, coordinator_refuses NotReady ∷ [])
    else (if has_table c.tablets table then (c, coordinator_refuses TableExists ∷ [])
    else (if is_too_many c.tablets then (c, coordinator_refuses TooManyTablets ∷ []) else creates_table c table owner))

-- why a tablet can't be split there, if so
abbrev pub split_fault : List Tablet → ℕ → Option Tablet → Option Fault
split_fault tablets at None = Some NoTable
split_fault tablets at (Some tablet) =
    if nat_eq at tablet.range.lo then Some BadSplit
    else (if tablet.crashed then Some Recovering else (if is_too_many tablets then Some TooManyTablets else None))

-- a split of the tablet that holds the key
abbrev pub splits : Coordinator → ℕ → ℕ → Coordinator × List Message
splits c table at =
    let split : Coordinator × List Message =
    (record c { tablets = split_at table at c.tablets }, coordinator_tells (SplitOk table at) ∷ []) in
    let fault = split_fault c.tablets at (tablet_of c.tablets table at) in
    option_map_or (λ why. (c, coordinator_refuses why ∷ [])) fault split

-- The timer

-- the term was granted
abbrev pub is_granted_term : Coordinator → Part → Bool
is_granted_term c part = list_any (λ grant. nat_eq grant.term part.term) c.grants

-- the id has a part whose term isn't granted
abbrev pub has_open_part : Coordinator → Decision → ServerId → Bool
has_open_part c decision id = list_any (λ part. not (is_granted_term c part)) (parts_of id decision.parts)

-- who is up and hasn't answered is asked again; or who is up and has a term not granted gets the plan again
abbrev pub asks_again : Coordinator → ℕ → Attempt → Option Decision → List Message
asks_again c number attempt None =
    to_each (filter (λ id. not (has_answered id attempt.replies)) (up c.servers)) (Gather number attempt.master)
asks_again c number attempt (Some decision) =
    plan_messages number attempt.master decision (filter (has_open_part c decision) (up c.servers))

-- of these attempts, the first of which has this number, each that is its master's current one
abbrev pub asks_again_of : Coordinator → ℕ → List Attempt → List Message
asks_again_of c number [] = []
asks_again_of c number (attempt ∷ attempts) =
    (if is_current c number attempt then asks_again c number attempt attempt.decided else []) ++
    asks_again_of c (number + 1) attempts

-- the list goes out again, and then what each current attempt waits for
abbrev pub coordinator_ticks : Coordinator → List Message
coordinator_ticks c = spreads_list c.servers ++ asks_again_of c 1 c.attempts

-- on a message
abbrev pub coordinator_takes : Coordinator → Addr → Body → Coordinator × List Message
coordinator_takes c (Server from) Enlist = enlists c from
coordinator_takes c (Server from) Ready = notes_ready c from
coordinator_takes c (Server from) (Commit seg epoch) = commits_pair c from (record { seg = seg; epoch = epoch })
coordinator_takes c (Server from) (Replicas attempt rows) = (keeps_answer c from attempt rows, [])
coordinator_takes c (Server from) (Recovered attempt term) = takes_recovered c from attempt term
coordinator_takes c from body = (c, [])
