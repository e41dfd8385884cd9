-- What is due, by what the coordinator knows and what was seen of the servers.
use Rattle.std.specs.Prelude.{ℕ, Bool, false, not, nat_eq, ◌&&◌, ◌||◌, if◌then◌else◌, List, [], ◌∷◌, ◌++◌}
use Rattle.std.specs.Prelude.{map, filter, Option, Some, None}
use Rattle.std.specs.List.{list_all, list_any}
use Rattle.rc_types.specs.declared.ids.ServerId.{ServerId}
use Rattle.rc_types.specs.declared.rows.Tablet.{Tablet}
use Rattle.rc_model.specs.Ids.{same_id}
use Rattle.rc_model.specs.ServerList.{ServerList, is_up, has_crashed, up}
use Rattle.rc_model.specs.Attempts.{Decision, Attempt, is_gathering, has_answered}
use Rattle.rc_attempts.specs.Lookups.{number_of, attempt_of}
use Rattle.rc_coordinator.specs.Book.{Book}
use Rattle.rc_runbook.specs.declared.asking.Due.{Due}
use Rattle.rc_runbook.specs.declared.asking.Due.TheVariants.{Suspect, Decide, Restart}

abbrev pub is_among : List ServerId → ServerId → Bool
is_among ids id = list_any (same_id id) ids

-- Owners

-- the id owns a tablet
abbrev pub owns : List Tablet → ServerId → Bool
owns tablets id = list_any (λ tablet. same_id id tablet.owner) tablets

-- the id is up, and owns a tablet
abbrev pub is_stuck_owner : ServerList → List Tablet → ServerId → Bool
is_stuck_owner servers tablets id = is_up servers id && owns tablets id

-- with the owner of this tablet, if it has crashed and isn't one of them
abbrev pub with_owner : List ServerId → Tablet → List ServerId
with_owner owners tablet =
    if tablet.crashed && not (is_among owners tablet.owner) then owners ++ tablet.owner ∷ [] else owners

-- with the crashed owners of these tablets, each once
abbrev pub crashed_owners : List ServerId → List Tablet → List ServerId
crashed_owners owners [] = owners
crashed_owners owners (tablet ∷ tablets) = crashed_owners (with_owner owners tablet) tablets

-- Attempts

abbrev pub current_attempt : Book → ServerId → Option Attempt
current_attempt book master = attempt_of book.attempts (number_of book.current master)

-- each of these has answered
abbrev pub have_answered : Attempt → List ServerId → Bool
have_answered attempt ids = list_all (λ id. has_answered id attempt.replies) ids

-- one of these ids is ready
abbrev pub some_ready : List ServerId → List ServerId → Bool
some_ready ready ids = list_any (λ id. list_any (same_id id) ready) ids

abbrev pub is_ripe_at : Book → List ServerId → Option Attempt → Bool
is_ripe_at book ids None = false
is_ripe_at book ids (Some attempt) = is_gathering attempt && (have_answered attempt ids && some_ready book.ready ids)

-- the attempt is gathering, each of these ids has answered, and one of them is ready
abbrev pub is_ripe : Book → List ServerId → ServerId → Bool
is_ripe book ids master = is_ripe_at book ids (current_attempt book master)

-- a replica of the plan is on a server that isn't up
abbrev pub lacks_holder : ServerList → Decision → Bool
lacks_holder servers decision = list_any (λ row. not (is_up servers row.holder)) decision.plan.rows

-- the master still has the tablet that begins at this point
abbrev pub waits_at : List Tablet → ServerId → ℕ → ℕ → Bool
waits_at tablets master table lo =
    list_any (λ tablet. nat_eq tablet.range.table table &&
    (nat_eq tablet.range.lo lo && same_id master tablet.owner)) tablets

-- a part whose tablet the master still has was given to a server that isn't up
abbrev pub lacks_master : ServerList → Decision → List Tablet → ServerId → Bool
lacks_master servers decision tablets master = list_any
    (λ given. not (is_up servers given.to) &&
    waits_at tablets master given.part.range.table given.part.range.lo) decision.parts

abbrev pub is_vain : Book → List Tablet → ServerId → Option Decision → Bool
is_vain book tablets master None = false
is_vain book tablets master (Some decision) =
    lacks_holder book.servers decision || lacks_master book.servers decision tablets master

abbrev pub waits_in_vain_at : Book → List Tablet → ServerId → Option Attempt → Bool
waits_in_vain_at book tablets master None = false
waits_in_vain_at book tablets master (Some attempt) = is_vain book tablets master attempt.decided

-- the recovery was decided, and can't go on
abbrev pub waits_in_vain : Book → List Tablet → ServerId → Bool
waits_in_vain book tablets master = waits_in_vain_at book tablets master (current_attempt book master)

-- What is due

-- of the servers that were seen
abbrev pub dues_of_seen : Book → List ServerId → List ServerId → List ServerId → List Due
dues_of_seen book heard silent stuck =
    map Restart (filter (has_crashed book.servers) heard)
    ++ map Restart (filter (is_stuck_owner book.servers book.tablets) stuck)
    ++ map Suspect (filter (is_up book.servers) silent)

-- of recoveries that can't go on, and of those that can be decided
abbrev pub dues_of_attempts : Book → List ServerId → List Due
dues_of_attempts book owners =
    map Suspect (filter (waits_in_vain book book.tablets) owners)
    ++ map Decide (filter (is_ripe book (up book.servers)) owners)

abbrev pub dues : Book → List ServerId → List ServerId → List ServerId → List Due
dues book heard silent stuck =
    dues_of_seen book heard silent stuck ++ dues_of_attempts book (crashed_owners [] book.tablets)
