-- One walk over the rules of the coordinator: what holds of each single rule holds of its whole steps.
use Rattle.std.proofs.Common.{◌≡◌, ℕ, suc, ◌+◌, not, Bool, true, false}
use Rattle.std.proofs.Common.{cond, nat_eq, ◌&&◌, List, [], ◌∷◌, ◌++◌, filter}
use Rattle.std.proofs.Common.{slice_get, Option, Some, None, Result, Ok, Err, refl, ◌∙◌, subst, arith}
use Rattle.std.proofs.lemmas.Bool.{and_parts, not-false}
use Rattle.std.proofs.lemmas.Bool.Decides.{nat_tests}
use Rattle.std.proofs.lemmas.List.{append-nil}
use Rattle.std.specs.Prelude.{is_none}
use Rattle.rc_model.specs.Model.{ServerId, Pair, Addr, Server, Row, Part, Tablet, Grant, Fault, Deposed, StaleGeneration, StaleAttempt}
use Rattle.rc_model.specs.Model.{NotReady, NoTable, BadSplit, TableExists, TooManyTablets, Recovering, Message, Body, Enlist, Ready}
use Rattle.rc_model.specs.Model.{Commit, CommitOk, Replicas, Recovered, Gather, SplitOk, put_id, from_coordinator, to_each}
use Rattle.rc_model.specs.Model.{coordinator_refuses, coordinator_tells, is_up, has_crashed, is_newest, enlisted, up, holds, has_table}
use Rattle.rc_model.specs.Model.{tablet_of, split_at, marked_crashed, has_range, assigned, pick, greater_pair, Attempt, Decision}
use Rattle.rc_model.specs.Model.{has_answered, is_gathering, parts_of, plan_message, plan_messages, refuses_server}
use Rattle.rc_model.specs.Model.{list_body, spreads_list, begins_attempt, begins_if_needed, attempt_at, with_attempt}
use Rattle.rc_model.specs.Model.{up_of_host, follows_generation, enlists, notes_ready, with_crashed, suspects, spreads_then_begins}
use Rattle.rc_model.specs.Model.{commits_pair, is_current, with_answer, keeps_answer_in, ready_ids, decision_of, decides_on, decides_with}
use Rattle.rc_model.specs.Model.{decides_attempt, own_body, grant_of, grant_to, part_of_sender, grants_part}
use Rattle.rc_model.specs.Model.{takes_recovered, creates_table, is_too_many, creates, split_fault}
use Rattle.rc_model.specs.Model.{has_open_part, asks_again, asks_again_of, coordinator_ticks, coordinator_takes, NodeWork, Deliver}
use Rattle.rc_model.specs.Model.{coordinator_step}
use Rattle.rc_types.specs.declared.rows.Plan.{Plan}
use Rattle.rc_types.specs.declared.ids.Addr.TheVariants.{Coordinator as AtCoordinator}
use Rattle.rc_types.specs.declared.messages.Body.TheVariants as body
use Rattle.rc_types.specs.declared.messages.Body.TheVariants.{Plan as PlanBody}
use Rattle.rc_model.specs.Coordinator.{Coordinator}
use Rattle.rc_model.specs.Nodes.{Tick, Ordered, obeys_order}
use Rattle.rc_types.specs.declared.events.Order.{Order}
use Rattle.rc_types.specs.declared.events.Order.TheVariants.{Suspect, Decide, Create, Split}
use Rattle.rc_model.proofs.Sending.{Each, each-none, each-one, each-more, each-both, each-if}
use Rattle.rc_model.proofs.Tests.{either}
use Rattle.rc_model.proofs.Granting.{by_part, by_grant}
use Rattle.std.specs.Option.{option_map_or}

-- What has to hold, of a coordinator and of what it hears: of what a rule leaves, with what it sends

-- by this it refuses a server for want of a tablet
abbrev pub is_lack : Fault → Bool
is_lack NoTable = true
is_lack _ = false

-- a kind that no law of the coordinator speaks of: by it nothing is granted, refused for want of a tablet, or said of a log
abbrev pub is_plain : Body → Bool
is_plain (body.Write table key value) = false
is_plain (body.Read table key) = false
is_plain (body.WriteOk seg offset term table key version) = false
is_plain (body.ReadOk table key version value) = false
is_plain (body.Refused reason) = false
is_plain (body.Place seg epoch digest entries closed) = false
is_plain (body.Append seg offset entries) = false
is_plain (body.Close seg len) = false
is_plain (body.Stored seg epoch len closed) = false
is_plain (body.Commit seg epoch) = false
is_plain (body.CommitOk seg epoch) = false
is_plain body.Enlist = false
is_plain body.Ready = false
is_plain (body.List version rows) = false
is_plain (body.Gather attempt master) = false
is_plain (body.Replicas attempt rows) = false
is_plain (body.Plan head attempt master rows parts) = false
is_plain (body.Fetch attempt master seg len part) = false
is_plain (body.Data attempt seg term entries) = false
is_plain (body.Recovered attempt term) = false
is_plain (body.Own range term previous attempt) = false
is_plain (body.Free seg) = false
is_plain _ = true

-- what a split does, given why it can't be made, if so
abbrev splits_unless : Coordinator → ℕ → ℕ → Option Fault → Coordinator × List Message
splits_unless c table at fault = option_map_or (λ why. (c, coordinator_refuses why ∷ [])) fault
    (record c { tablets = split_at table at c.tablets }, coordinator_tells (SplitOk table at) ∷ [])

-- a part that is asked for, and wasn't granted
pub record IsAsked (c : Coordinator) (H : Addr → Body → Type 0) (id : ServerId) (number term : ℕ) (part : Part) : Type 0 where
  pub heard : H (Server id) (Recovered number term)
  pub up : is_up c.servers id ≡ true
  pub ungranted : grant_to c id term ≡ None
  pub found : part_of_sender c id number term ≡ Some part

-- where it stays as it is
pub record Stays (c : Coordinator) (H : Addr → Body → Type 0) (M : Coordinator × List Message → Type 0) : Type 0 where
  pub tells : (to : Addr) (body : Body) → is_plain body ≡ true → M (c, record { from = AtCoordinator; to = to; body = body } ∷ [])
  pub refuses : (fault : Fault) → M (c, coordinator_refuses fault ∷ [])
  pub denies : (id : ServerId) (fault : Fault) → is_lack fault ≡ false → M (c, refuses_server id fault ∷ [])
  pub lists : (id : ServerId) → M (c, from_coordinator id (list_body c.servers) ∷ [])
  pub repeats : (id : ServerId) (term : ℕ) (grant : Grant) → is_up c.servers id ≡ true → grant_to c id term ≡ Some grant →
      M (c, from_coordinator id (own_body grant) ∷ [])
  pub lacks : (id : ServerId) (number term : ℕ) (part : Part) → IsAsked c H id number term part →
      has_range part.range c.tablets ≡ false → M (c, refuses_server id NoTable ∷ [])
  pub ticks : M (c, coordinator_ticks c)

-- whatever is sent
pub any-stays : {c : Coordinator} (H : Addr → Body → Type 0) (M : Coordinator × List Message → Type 0) →
    ((messages : List Message) → M (c, messages)) → Stays c H M
any-stays {c} H M any = search arith

-- where it changes: N holds before an attempt may begin
pub record Moves (c : Coordinator) (H : Addr → Body → Type 0) (N M : Coordinator × List Message → Type 0) : Type 0 where
  pub same : N (c, [])
  pub crashes : (id : ServerId) → is_up c.servers id ≡ true → N (with_crashed c id, spreads_list (with_crashed c id).servers)
  pub enlists : (id : ServerId) → up_of_host id.index c.servers ≡ None →
      N (record c { servers = enlisted id c.servers }, spreads_list (enlisted id c.servers))
  pub replaces : (id older : ServerId) → up_of_host id.index c.servers ≡ Some older → N (
    record c { servers = enlisted id c.servers; tablets = marked_crashed older c.tablets },
    spreads_list (enlisted id c.servers),
  )
  pub done : (new : Coordinator) (messages : List Message) → N (new, messages) → M (new, messages)
  pub begins : (new : Coordinator) (messages : List Message) (master : ServerId) → N (new, messages) →
      has_crashed new.servers master ≡ true →
      M ((begins_attempt new master).0, messages ++ (begins_attempt new master).1)
  pub readies : (id : ServerId) → M (record c { ready = put_id c.ready id true }, [])
  pub commits : (id : ServerId) (pair : Pair) → H (Server id) (Commit pair.seg pair.epoch) → is_up c.servers id ≡ true → M (
    record c { least = put_id c.least id (greater_pair (c.least id) pair) },
    from_coordinator id (CommitOk pair.seg pair.epoch) ∷ [],
  )
  pub answers : (from : ServerId) (number : ℕ) (rows : List Row) (attempt : Attempt) →
      H (Server from) (Replicas number rows) → attempt_at c number ≡ Some attempt → attempt.decided ≡ None →
      M (with_attempt c number (with_answer from rows attempt), [])
  pub decides : (master : ServerId) (attempt : Attempt) (plan : Plan) (id : ServerId) (ids : List ServerId) →
      attempt_at c (c.current master) ≡ Some attempt → attempt.decided ≡ None →
      pick (c.least master) attempt.replies ≡ Ok plan → M (decides_on c (c.current master) attempt
      (decision_of c (c.current master) attempt.master plan (id ∷ ids)) (id ∷ ids))
  pub grants : (id : ServerId) (number term : ℕ) (part : Part) → IsAsked c H id number term part →
      has_range part.range c.tablets ≡ true → M (
        record c {
          tablets = assigned part.range id part.term c.tablets;
          grants = c.grants ++ grant_of number id part ∷ [];
        },
        from_coordinator id (own_body (grant_of number id part)) ∷ [],
      )
  pub creates : (table : ℕ) (owner : ServerId) → is_up c.servers owner ≡ true → has_table c.tablets table ≡ false →
      is_too_many c.tablets ≡ false → M (creates_table c table owner)
  pub splits : (table at : ℕ) (tablet : Tablet) → tablet_of c.tablets table at ≡ Some tablet → holds tablet table at ≡ true →
      nat_eq at tablet.range.lo ≡ false → tablet.crashed ≡ false → is_too_many c.tablets ≡ false →
      M (record c { tablets = split_at table at c.tablets }, coordinator_tells (SplitOk table at) ∷ [])

-- Lists and numbers

-- what isn't decided has no decision
undecided-none : (decided : Option Decision) → is_none decided ≡ true → decided ≡ None
undecided-none None e = refl
undecided-none (Some decision) e = cc

-- the tablet that is found holds the point
holds-found : (table at : ℕ) (tablets : List Tablet) (one : Tablet) → tablet_of tablets table at ≡ Some one → holds one table at ≡ true
holds-found table at [] one e = cc
holds-found table at (first ∷ tablets) one e =
    either (λ (found : Option Tablet). found ≡ Some one → holds one table at ≡ true) (holds first table at) (Some first)
    (tablet_of tablets table at)
    (λ is f. (let same : first ≡ one = cc in subst (λ (t : Tablet). holds t table at ≡ true) same is))
    (λ _ f. holds-found table at tablets one f) e

-- the attempt of a number
attempt-found : (c : Coordinator) (k : ℕ) → attempt_at c (1 + k) ≡ slice_get c.attempts k
attempt-found c k = search (arith, slice_get, nat_eq, nat_tests)

-- The walk

module _ (c : Coordinator) (H : Addr → Body → Type 0) (N M : Coordinator × List Message → Type 0) (s : Stays c H M)
    (w : Moves c H N M) where
  walked-begins : {new : Coordinator} {messages : List Message} (master : ServerId) → N (new, messages) →
      M ((begins_if_needed new master).0, messages ++ (begins_if_needed new master).1)
  walked-begins {new} {messages} master n = search (arith, either, and_parts, append-nil)

  pub walked-suspects : (id : ServerId) → M (suspects c id)
  walked-suspects id =
      either M (is_up c.servers id) (spreads_then_begins (with_crashed c id) id) (begins_if_needed c id)
      (λ is. walked-begins id (w.crashes id is)) (λ _. walked-begins id w.same)

  walked-follows : (id : ServerId) (older : Option ServerId) → up_of_host id.index c.servers ≡ older →
      M (follows_generation (record c { servers = enlisted id c.servers }) older)
  walked-follows id None is = w.done (record c { servers = enlisted id c.servers }) (spreads_list (enlisted id c.servers)) (w.enlists id is)
  walked-follows id (Some older) is = walked-begins older (w.replaces id older is)

  walked-enlists : (id : ServerId) → M (enlists c id)
  walked-enlists id = either M (is_up c.servers id) (c, from_coordinator id (list_body c.servers) ∷ [])
      (cond (is_newest id c.servers.rows) (follows_generation (record c { servers = enlisted id c.servers })
      (up_of_host id.index c.servers)) (c, refuses_server id StaleGeneration ∷ [])) (λ _. s.lists id)
      (λ _. either M (is_newest id c.servers.rows)
      (follows_generation (record c { servers = enlisted id c.servers }) (up_of_host id.index c.servers))
      (c, refuses_server id StaleGeneration ∷ [])
      (λ _. walked-follows id (up_of_host id.index c.servers) refl) (λ _. s.denies id StaleGeneration refl))

  walked-ready : (id : ServerId) → M (notes_ready c id)
  walked-ready id =
      either M (is_up c.servers id) (record c { ready = put_id c.ready id true }, []) (c, refuses_server id Deposed ∷ [])
      (λ _. w.readies id) (λ _. s.denies id Deposed refl)

  walked-commits : {id : ServerId} {pair : Pair} → H (Server id) (Commit pair.seg pair.epoch) → M (commits_pair c id pair)
  walked-commits {id} {pair} h = either M (is_up c.servers id) (
    record c { least = put_id c.least id (greater_pair (c.least id) pair) },
    from_coordinator id (CommitOk pair.seg pair.epoch) ∷ [],
  ) (c, refuses_server id Deposed ∷ []) (w.commits id pair h) (λ _. s.denies id Deposed refl)

  walked-keeps : {from : ServerId} {number : ℕ} {rows : List Row} (found : Option Attempt) → attempt_at c number ≡ found →
      H (Server from) (Replicas number rows) → M (option_map_or (keeps_answer_in c from number rows) found c, [])
  walked-keeps None is h = w.done c [] w.same
  walked-keeps {from} {number} {rows} (Some attempt) is h = search (arith, either, undecided-none, and_parts)

  walked-picks : (master : ServerId) {attempt : Attempt} (picked : Result Plan Fault) (ids : List ServerId) →
      attempt_at c (c.current master) ≡ Some attempt → attempt.decided ≡ None →
      pick (c.least master) attempt.replies ≡ picked → M (decides_with c (c.current master) attempt picked ids)
  walked-picks master (Err fault) ids is undecided e = s.refuses fault
  walked-picks master (Ok plan) [] is undecided e = s.refuses NotReady
  walked-picks master {attempt} (Ok plan) (id ∷ ids) is undecided e = w.decides master attempt plan id ids is undecided e

  pub walked-decides : (master : ServerId) (found : Option Attempt) → attempt_at c (c.current master) ≡ found →
      M (decides_attempt c master found)
  walked-decides master None is = s.refuses StaleAttempt
  walked-decides master (Some attempt) is = either M (is_gathering attempt)
      (decides_with c (c.current master) attempt (pick (c.least master) attempt.replies) (ready_ids c))
      (c, coordinator_refuses StaleAttempt ∷ [])
      (λ e. walked-picks master (pick (c.least master) attempt.replies) (ready_ids c) is
      (undecided-none attempt.decided e) refl) (λ _. s.refuses StaleAttempt)

  walked-part : {id : ServerId} {number term : ℕ} {part : Part} → IsAsked c H id number term part → M (grants_part c id number part)
  walked-part {id} {number} {term} {part} is = search (arith, either)

  walked-given : {id : ServerId} {number term : ℕ} (part : Option Part) → H (Server id) (Recovered number term) →
      is_up c.servers id ≡ true → grant_to c id term ≡ None → part_of_sender c id number term ≡ part →
      M (by_part c id number part)
  walked-given {id} None h is none found = s.denies id StaleAttempt refl
  walked-given (Some part) h is none found =
      walked-part (record { heard = h; up = is; ungranted = none; found = found })

  walked-grants : {id : ServerId} {number term : ℕ} (grant : Option Grant) → H (Server id) (Recovered number term) →
      is_up c.servers id ≡ true → grant_to c id term ≡ grant → M (by_grant c id number term grant)
  walked-grants {id} {term} (Some grant) h is found = s.repeats id term grant is found
  walked-grants {id} {number} {term} None h is found = walked-given (part_of_sender c id number term) h is found refl

  walked-recovered : {id : ServerId} {number term : ℕ} → H (Server id) (Recovered number term) → M (takes_recovered c id number term)
  walked-recovered {id} {number} {term} h =
      either M (is_up c.servers id) (by_grant c id number term (grant_to c id term)) (c, refuses_server id Deposed ∷ [])
      (λ is. walked-grants (grant_to c id term) h is refl) (λ _. s.denies id Deposed refl)

  pub walked-creates : (table : ℕ) (owner : ServerId) → M (creates c table owner)
  walked-creates table owner =
      either M (not (is_up c.servers owner && c.ready owner)) (c, coordinator_refuses NotReady ∷ [])
      (cond (has_table c.tablets table) (c, coordinator_refuses TableExists ∷ [])
      (cond (is_too_many c.tablets) (c, coordinator_refuses TooManyTablets ∷ []) (creates_table c table owner)))
      (λ _. s.refuses NotReady)
      (λ able. either M (has_table c.tablets table) (c, coordinator_refuses TableExists ∷ [])
      (cond (is_too_many c.tablets) (c, coordinator_refuses TooManyTablets ∷ []) (creates_table c table owner))
      (λ _. s.refuses TableExists)
      (λ fresh. either M (is_too_many c.tablets) (c, coordinator_refuses TooManyTablets ∷ []) (creates_table c table owner)
      (λ _. s.refuses TooManyTablets) (w.creates table owner (and_parts (is_up c.servers owner) (c.ready owner)
      (not-false (is_up c.servers owner && c.ready owner) able)).0 fresh)))

  pub walked-splits : (table at : ℕ) (found : Option Tablet) → tablet_of c.tablets table at ≡ found →
      M (splits_unless c table at (split_fault c.tablets at found))
  walked-splits table at None is = s.refuses NoTable
  walked-splits table at (Some tablet) is =
      either (λ (fault : Option Fault). M (splits_unless c table at fault)) (nat_eq at tablet.range.lo) (Some BadSplit)
      (cond tablet.crashed (Some Recovering) (cond (is_too_many c.tablets) (Some TooManyTablets) None))
      (λ _. s.refuses BadSplit)
      (λ inside. either (λ (fault : Option Fault). M (splits_unless c table at fault)) tablet.crashed (Some Recovering)
      (cond (is_too_many c.tablets) (Some TooManyTablets) None) (λ _. s.refuses Recovering)
      (λ unmarked. either (λ (fault : Option Fault). M (splits_unless c table at fault)) (is_too_many c.tablets)
      (Some TooManyTablets) None (λ _. s.refuses TooManyTablets)
      (w.splits table at tablet is (holds-found table at c.tablets tablet is) inside unmarked)))

  pub walked-takes : (from : Addr) (body : Body) → H from body → M (coordinator_takes c from body)
  walked-takes (Server from) Enlist h = walked-enlists from
  walked-takes (Server from) Ready h = walked-ready from
  walked-takes (Server from) (Commit seg epoch) h = walked-commits h
  walked-takes (Server from) (Replicas attempt rows) h = walked-keeps (attempt_at c attempt) refl h
  walked-takes (Server from) (Recovered attempt term) h = walked-recovered h
  walked-takes from body h = w.done c [] w.same

  walked-order : (order : Order) → M (obeys_order c order)
  walked-order (Suspect id) = walked-suspects id
  walked-order (Decide id) = walked-decides id (attempt_at c (c.current id)) refl
  walked-order (Create table owner) = walked-creates table owner
  walked-order (Split table at) = walked-splits table at (tablet_of c.tablets table at) refl

  pub walked-step : (work : NodeWork) → ((message : Message) → work ≡ Deliver message → H message.from message.body) →
      M (coordinator_step c work)
  walked-step (Deliver message) h = walked-takes message.from message.body (h message refl)
  walked-step Tick h = s.ticks
  walked-step (Ordered order) h = walked-order order
  walked-step work h = w.done c [] w.same

-- Messages of several kinds

pub each-to : (P : Message → Type 0) {body : Body} → ((id : ServerId) → P (from_coordinator id body)) → (ids : List ServerId) →
    Each P (to_each ids body)
each-to P p [] = each-none P
each-to P {body} p (id ∷ ids) = each-more P (to_each ids body) (p id) (each-to P p ids)

-- the plans of a decision: each has some parts of its addressee
pub each-plans : (P : Message → Type 0) {number : ℕ} {master : ServerId} (decision : Decision) →
    ((id : ServerId) (part : Part) (parts : List Part) → parts_of id decision.parts ≡ part ∷ parts →
    P (from_coordinator id (PlanBody decision.plan.head number master decision.plan.rows (part ∷ parts)))) →
    (ids : List ServerId) → Each P (plan_messages number master decision ids)
each-plans P decision p [] = each-none P
each-plans P {number} {master} decision p (id ∷ ids) =
    each-both P (plan_message number master decision.plan id (parts_of id decision.parts)) (plan_messages number master decision ids)
    (one (parts_of id decision.parts) refl) (each-plans P decision p ids)
  where
    one : (parts : List Part) → parts_of id decision.parts ≡ parts → Each P (plan_message number master decision.plan id parts)
    one [] e = each-none P
    one (part ∷ parts) e = each-one P (p id part parts e)

-- what the timer says again
pub record Again (c : Coordinator) (P : Message → Type 0) : Type 0 where
  pub lists : (id : ServerId) → P (from_coordinator id (list_body c.servers))
  pub gathers : (number : ℕ) (attempt : Attempt) (id : ServerId) → attempt_at c number ≡ Some attempt →
      P (from_coordinator id (Gather number attempt.master))
  pub plans : (number : ℕ) (attempt : Attempt) (decision : Decision) → attempt_at c number ≡ Some attempt →
      attempt.decided ≡ Some decision → (id : ServerId) (part : Part) (parts : List Part) →
      parts_of id decision.parts ≡ part ∷ parts →
      P (from_coordinator id (PlanBody decision.plan.head number attempt.master decision.plan.rows (part ∷ parts)))

module _ (c : Coordinator) (P : Message → Type 0) (a : Again c P) where
  each-asks : (number : ℕ) {attempt : Attempt} (decided : Option Decision) → attempt_at c number ≡ Some attempt →
      attempt.decided ≡ decided → Each P (asks_again c number attempt decided)
  each-asks number {attempt} None is e = each-to P (λ id. a.gathers number attempt id is)
      (filter (λ id. not (has_answered id attempt.replies)) (up c.servers))
  each-asks number {attempt} (Some decision) is e = each-plans P decision (a.plans number attempt decision is e)
      (filter (has_open_part c decision) (up c.servers))

  -- of the last attempts, from this number on
  each-asks_of : (attempts : List Attempt) (number : ℕ) →
      ((k : ℕ) (attempt : Attempt) → slice_get attempts k ≡ Some attempt → attempt_at c (number + k) ≡ Some attempt) →
      Each P (asks_again_of c number attempts)
  each-asks_of [] number found = each-none P
  each-asks_of (attempt ∷ attempts) number found =
      each-both P (cond (is_current c number attempt) (asks_again c number attempt attempt.decided) [])
      (asks_again_of c (number + 1) attempts) (each-if P (asks_again c number attempt attempt.decided)
      (λ _. each-asks number attempt.decided first refl))
      (each-asks_of attempts (number + 1) (λ k one e. (let place : number + suc k ≡ number + 1 + k = omega arith in
      subst (λ n. attempt_at c n ≡ Some one) place (found (suc k) one e))))
    where
      first : attempt_at c number ≡ Some attempt
      first = let place : number + 0 ≡ number = omega arith in subst (λ n. attempt_at c n ≡ Some attempt) place (found 0 attempt refl)

  pub each-ticks : Each P (coordinator_ticks c)
  each-ticks = each-both P (spreads_list c.servers) (asks_again_of c 1 c.attempts) (each-to P a.lists (up c.servers))
      (each-asks_of c.attempts 1 (λ k attempt e. attempt-found c k ∙ e))
