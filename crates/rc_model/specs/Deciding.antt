-- What the coordinator does for recoveries: answers, the decision, and the grants.
use Rattle.std.specs.Prelude.{ℕ, ◌+◌, ◌-◌, Bool, not, nat_eq, ◌&&◌, if◌then◌else◌, List, [], ◌∷◌, ◌++◌, length}
use Rattle.std.specs.Prelude.{filter, find, Option, Some, None, Result, Ok, Err, option_and_then}
use Rattle.std.specs.Option.{option_map_or}
use Rattle.rc_types.specs.declared.ids.ServerId.{ServerId}
use Rattle.rc_types.specs.declared.rows.Row.{Row}
use Rattle.rc_types.specs.declared.rows.Plan.{Plan}
use Rattle.rc_types.specs.declared.rows.Part.{Part}
use Rattle.rc_types.specs.declared.rows.Tablet.{Tablet}
use Rattle.rc_types.specs.declared.kept.Grant.{Grant}
use Rattle.rc_types.specs.declared.faults.Fault.{Fault}
use Rattle.rc_types.specs.declared.faults.Fault.TheVariants.{StaleAttempt, NotReady, NoTable}
use Rattle.rc_types.specs.declared.messages.Message.{Message}
use Rattle.rc_types.specs.declared.messages.Body.{Body}
use Rattle.rc_types.specs.declared.messages.Body.TheVariants.{Own}
use Rattle.rc_model.specs.Ids.{same_id}
use Rattle.rc_model.specs.Messages.{from_coordinator, coordinator_refuses}
use Rattle.rc_model.specs.ServerList.{up}
use Rattle.rc_model.specs.Tablets.{tablets_of, has_range, assigned}
use Rattle.rc_model.specs.Pick.{pick}
use Rattle.rc_model.specs.Attempts.{Decision, Attempt, is_gathering, has_answered, gives_parts, parts_of, plan_messages}
use Rattle.rc_model.specs.Coordinator.{Coordinator, refuses_server, attempt_at, with_attempt, if_up}

-- the attempt of this number is its master's current one
abbrev pub is_current : Coordinator → ℕ → Attempt → Bool
is_current c number attempt = nat_eq (c.current attempt.master) number

-- Answers

abbrev pub with_answer : ServerId → List Row → Attempt → Attempt
with_answer from rows attempt = record attempt { replies = attempt.replies ++ (from, rows) ∷ [] }

-- an answer is kept where its attempt is its master's current one, still gathering, and has none of the sender
abbrev pub keeps_answer_in : Coordinator → ServerId → ℕ → List Row → Attempt → Coordinator
keeps_answer_in c from number rows attempt =
    if is_current c number attempt && (is_gathering attempt && not (has_answered from attempt.replies))
    then with_attempt c number (with_answer from rows attempt) else c

abbrev pub keeps_answer : Coordinator → ServerId → ℕ → List Row → Coordinator
keeps_answer c from number rows = option_map_or (keeps_answer_in c from number rows) (attempt_at c number) c

-- The decision

-- the ids that are up and ready, in order
abbrev pub ready_ids : Coordinator → List ServerId
ready_ids c = filter c.ready (up c.servers)

-- the parts begin with the ready id at place number - 1, and with the next term
abbrev pub decision_of : Coordinator → ℕ → ServerId → Plan → List ServerId → Decision
decision_of c number master plan ids =
    record { plan = plan; parts = gives_parts ids (number - 1) (c.last_term + 1) (tablets_of master c.tablets) }

-- the decision is kept, its terms are used up, and the plan goes out
abbrev pub decides_on : Coordinator → ℕ → Attempt → Decision → List ServerId → Coordinator × List Message
decides_on c number attempt decision ids =
    let kept = with_attempt c number (record attempt { decided = Some decision }) in
    (record kept { last_term = c.last_term + length decision.parts }, plan_messages number attempt.master decision ids)

-- no log can be picked, or nobody is ready: the attempt goes on gathering
abbrev pub decides_with : Coordinator → ℕ → Attempt → Result Plan Fault → List ServerId → Coordinator × List Message
decides_with c number attempt (Err fault) ids = (c, coordinator_refuses fault ∷ [])
decides_with c number attempt (Ok plan) [] = (c, coordinator_refuses NotReady ∷ [])
decides_with c number attempt (Ok plan) (id ∷ ids) =
    decides_on c number attempt (decision_of c number attempt.master plan (id ∷ ids)) (id ∷ ids)

abbrev pub decides_attempt : Coordinator → ServerId → Option Attempt → Coordinator × List Message
decides_attempt c master None = (c, coordinator_refuses StaleAttempt ∷ [])
decides_attempt c master (Some attempt) =
    if is_gathering attempt
    then decides_with c (c.current master) attempt (pick (c.least master) attempt.replies) (ready_ids c)
    else (c, coordinator_refuses StaleAttempt ∷ [])

-- a Decide: refused where no attempt of the master is gathering, where no log can be picked, or where nobody is ready
abbrev pub decides : Coordinator → ServerId → Coordinator × List Message
decides c master = decides_attempt c master (attempt_at c (c.current master))

-- Grants

abbrev pub own_body : Grant → Body
own_body grant = Own grant.range grant.term grant.previous grant.attempt

abbrev pub grant_of : ℕ → ServerId → Part → Grant
grant_of number owner part =
    record { range = part.range; term = part.term; previous = part.previous; attempt = number; owner = owner }

-- the grant of this term to this owner
abbrev pub is_grant_to : ServerId → ℕ → Grant → Bool
is_grant_to owner term grant = nat_eq grant.term term && same_id grant.owner owner

abbrev pub grant_to : Coordinator → ServerId → ℕ → Option Grant
grant_to c owner term = find (is_grant_to owner term) c.grants

-- the part of this term among those that the decision gave to this id
abbrev pub part_in : ServerId → ℕ → Option Decision → Option Part
part_in id term decided =
    option_and_then (λ decision. find (λ part. nat_eq part.term term) (parts_of id decision.parts)) decided

-- the part of this term that the id has in this attempt, where that is its master's current one
abbrev pub part_of_sender : Coordinator → ServerId → ℕ → ℕ → Option Part
part_of_sender c id number term =
    option_and_then (λ attempt. if is_current c number attempt then part_in id term attempt.decided else None)
    (attempt_at c number)

-- the tablets are these from now on, the grant is remembered for good, and its owner gets the Own
abbrev pub grants_anew : Coordinator → List Tablet → Grant → Coordinator × List Message
grants_anew c tablets grant = (
  record c { tablets = tablets; grants = c.grants ++ grant ∷ [] },
  from_coordinator grant.owner (own_body grant) ∷ [],
)

-- the tablet of the part's range gets its new owner and term
abbrev pub grants_part : Coordinator → ServerId → ℕ → Part → Coordinator × List Message
grants_part c id number part =
    if has_range part.range c.tablets
    then grants_anew c (assigned part.range id part.term c.tablets) (grant_of number id part)
    else (c, refuses_server id NoTable ∷ [])

-- a Recovered of a term: one that was granted to the sender before is granted by the same Own again, and one that it
-- has in its attempt is granted now; any other is refused
abbrev pub takes_recovered : Coordinator → ServerId → ℕ → ℕ → Coordinator × List Message
takes_recovered c id number term = if_up c id (
    option_map_or (λ grant. (c, from_coordinator id (own_body grant) ∷ [])) (grant_to c id term)
    (option_map_or (grants_part c id number) (part_of_sender c id number term)
    (c, refuses_server id StaleAttempt ∷ [])))
