-- A recovery that was decided can be granted, in every world.
use Rattle.std.proofs.Common.{◌≡◌, ℕ, true, cond, List, [], ◌∷◌, ◌++◌, find, nat_eq}
use Rattle.std.proofs.Common.{Option, Some, None, refl, sym, ap, ◌∙◌, subst, inl, inr, arith, option_and_then}
use Rattle.std.proofs.lemmas.Bool.{and_parts, eqb-true, eq-eqb}
use Rattle.std.proofs.lemmas.Bool.Decides.{nat_tests}
use Rattle.rc_model.specs.Model.{ServerId, Addr, Server, Setup, Event, NoTable, Part, Grant, Message, Own, same_id}
use Rattle.rc_model.specs.Model.{from_coordinator, is_up, has_range, assigned, Attempt, GivenPart, parts_of, refuses_server, attempt_at}
use Rattle.rc_model.specs.Model.{own_body, grant_of, is_grant_to, grant_to, part_of_sender}
use Rattle.rc_model.specs.Model.{takes_recovered, NodeWork, coordinator_step, outside_sends, server_of}
use Rattle.rc_model.specs.Model.{host_step, next_server, World, NodeName, TheOutside, TheCoordinator, TheHost, Job, job_of}
use Rattle.rc_model.specs.Model.{is_possible, node_done, job_done, step, replay_from, replay, In, Enlist, to_coordinator, grants_anew}
use Rattle.rc_types.specs.declared.messages.Body.TheVariants.{Plan as PlanBody}
use Rattle.rc_model.specs.Coordinator.{Coordinator}
use Rattle.rc_model.specs.Nodes.{Ask}
use Rattle.rc_step_laws.specs.All.{IsNumbered}
use Rattle.rc_step_laws.proofs.Attempting.{numbered-at}
use Rattle.rc_model.proofs.Sending.{each-one}
use Rattle.rc_step_laws.proofs.NodeWalk.{said-host}
use Rattle.rc_step_laws.proofs.Replays.{GoodWorld, IsGiven as IsGivenWork, job_of-given, good-step, good-opening, good-world}
use Rattle.rc_owner_laws.specs.Grants.{IsGiven, IsPlanOf}
use Rattle.rc_owner_laws.specs.Waiting.{IsTablet, GoodTablets, lacks_tablet, NoneLacksTablet}
use Rattle.rc_owner_laws.specs.Recoveries.{IsPlanned, IsOwned, IsAnsweredByOwn, PlannedPartsAreTablets}
use Rattle.rc_owner_laws.specs.Recoveries.{PlannedPartsCanBeGranted, NoServerLacksATablet}
use Rattle.rc_owner_laws.proofs.Decided.{find-none, gives}
use Rattle.rc_owner_laws.proofs.Decided.{IsSenders, senders}
use Rattle.rc_owner_laws.proofs.Marks.{ranged}
use Rattle.rc_owner_laws.proofs.Waiting.{sender-waits, tablets-moved, new-tablets}
use Rattle.rc_owner_laws.proofs.OwnerReplays.{OfWorld, grants-step, grants-opening, grants-world}
use Rattle.rc_model.proofs.Ids.{same_id-true, same_id-refl, server-same}
use Rattle.rc_model.proofs.Tests.{true_false, either}
use Rattle.rc_step_laws.proofs.Tests.{find-one}
use Rattle.rc_step_laws.proofs.Copies.{In-either}
use Rattle.rc_model.proofs.Granting.{by_part, by_grant}

-- Each world keeps the tablets, and refuses no server for want of one

record TabletsWorld (world : World) : Type 0 where
  good : GoodTablets world.coordinator
  says : NoneLacksTablet world.sent

-- these are sent by servers
abbrev FromServers : List Message → Type 0
FromServers messages = (message : Message) → In message messages → (id : ServerId) × (message.from ≡ Server id)

more-says : (sent messages : List Message) → NoneLacksTablet sent → NoneLacksTablet messages → NoneLacksTablet (sent ++ messages)
more-says sent messages old new message at = In-either message sent messages at (λ was. old message was) (λ is. new message is)

servers-say : (messages : List Message) → FromServers messages → NoneLacksTablet messages
servers-say messages from message at = ap (λ (one : Addr). lacks_tablet one message.to message.body) (from message at).1

outside-says : (work : NodeWork) → NoneLacksTablet (outside_sends work)
outside-says (Ask to body) message (inl same) = ap (λ (one : Message). lacks_tablet one.from one.to one.body) same
outside-says (Ask to body) message (inr never) = absurd never
outside-says _ message at = absurd at

from-host : (world : World) (one : Event) (i : ℕ) → GoodWorld world → (work : NodeWork) → IsGivenWork world.sent (TheHost i) work →
    FromServers (host_step (world.hosts i) work).1
from-host world one i good work given = said-host world one i good FromServers (record {
  none = λ message at. absurd at;
  backs = λ after moved message at. (server_of (world.hosts i), moved.from message at);
  moves = λ master after moved message at. (server_of (world.hosts i), (moved.says message at).from);
  starts = each-one (λ (message : Message). (id : ServerId) × (message.from ≡ Server id)) (next_server (world.hosts i), refl);
}) work given

tablets-node : {world : World} (one : Event) (node : NodeName) (work : NodeWork) → GoodWorld world → OfWorld world →
    TabletsWorld world → IsGivenWork world.sent node work → TabletsWorld (node_done world one node work)
tablets-node {world} one TheOutside work good grants p given =
    record { good = p.good; says = more-says world.sent (outside_sends work) p.says (outside-says work) }
tablets-node {world} one TheCoordinator work good grants p given = record {
  good = (tablets-moved world.sent world.coordinator good.coordinator grants.good p.good work).good;
  says = more-says world.sent (coordinator_step world.coordinator work).1 p.says
      (tablets-moved world.sent world.coordinator good.coordinator grants.good p.good work).says;
}
tablets-node {world} one (TheHost i) work good grants p given = search (arith, more-says, servers-say, from-host)

tablets-job : {world : World} (one : Event) (found : Option Job) → job_of world.sent one ≡ found → GoodWorld world →
    OfWorld world → TabletsWorld world → TabletsWorld (job_done world one found)
tablets-job one None is good grants p = p
tablets-job {world} one (Some job) is good grants p =
    tablets-node one job.node job.work good grants p (job_of-given world.sent one is)

tablets-step : {world : World} (one : Event) → GoodWorld world → OfWorld world → TabletsWorld world → TabletsWorld (step world one)
tablets-step {world} one good grants p =
    either TabletsWorld (is_possible world one) (job_done world one (job_of world.sent one)) world
    (λ _. tablets-job one (job_of world.sent one) refl good grants p) (λ _. p)

tablets-from : {world : World} (events : List Event) → GoodWorld world → OfWorld world → TabletsWorld world →
    TabletsWorld (replay_from world events)
tablets-from [] good grants p = p
tablets-from {world} (one ∷ events) good grants p =
    tablets-from {world = (step world one)} events (good-step world one good) (grants-step world one good grants)
    (tablets-step {world = world} one good grants p)

tablets-world : (setup : Setup) (events : List Event) → TabletsWorld (replay setup events)
tablets-world setup events = tablets-from events (good-opening setup) (grants-opening setup)
    (record { good = new-tablets; says = λ message at. absurd at })

-- What the messages say of it

pub no-server-lacks : NoServerLacksATablet
no-server-lacks setup events id at = true_false ((tablets-world setup events).says (refuses_server id NoTable) at)

-- an attempt is found by its number
found-by : (c : Coordinator) {number : ℕ} {attempt : Attempt} → IsNumbered c.attempts number attempt → attempt_at c number ≡ Some attempt
found-by c is = search (arith, nat_tests)

parts-in : (id : ServerId) (parts : List GivenPart) (part : Part) → In (gives id part) parts → In part (parts_of id parts)
parts-in id [] part at = absurd at
parts-in id (first ∷ parts) part (inl same) = search (arith, same_id-refl)
parts-in id (first ∷ parts) part (inr rest) =
    either (In part) (same_id id first.to) (first.part ∷ parts_of id parts) (parts_of id parts)
    (λ _. inr (parts-in id parts part rest)) (λ _. parts-in id parts part rest)

module _ (setup : Setup) (events : List Event) (id : ServerId) (number : ℕ) (master : ServerId) (part : Part)
    (planned : IsPlanned (replay setup events).sent id number master part) where
  grants : OfWorld (replay setup events)
  grants = grants-world setup events

  tablets : GoodTablets (replay setup events).coordinator
  tablets = (tablets-world setup events).good

  of : IsPlanOf (replay setup events).coordinator (Server id) number master planned.rows planned.parts
  of = grants.kept.known (from_coordinator id (PlanBody planned.head number master planned.rows planned.parts)) planned.planned

  given : In (gives id part) of.decision.parts
  given = subst (λ (m : ServerId). In (gives m part) of.decision.parts) (server-same (sym of.to_is)) (of.given part planned.among)

  -- what was granted was sent
  owned : IsGiven (replay setup events).coordinator.grants (gives id part) → IsOwned (replay setup events).sent id part
  owned is = record {
    range = is.grant.range;
    previous = is.grant.previous;
    attempt = is.grant.attempt;
    owned = subst (λ n. In (from_coordinator id (Own is.grant.range n
        is.grant.previous is.grant.attempt)) (replay setup events).sent) is.term
        (subst (λ (m : ServerId). In (from_coordinator m (own_body is.grant)) (replay setup events).sent) is.owner
        (grants.kept.told is.grant is.among));
  }

  pub planned-is-tablet : (replay setup events).coordinator.current master ≡ number →
      (IsOwned (replay setup events).sent id part → ⊥) → IsTablet (replay setup events).coordinator.tablets master part
  planned-is-tablet current unowned =
      tablets.waiting number master of.decision of.decided current (gives id part) given (λ is. unowned (owned is))

  -- the part, or another of its term, is found for whom it was given to
  found-part : (replay setup events).coordinator.current master ≡ number →
      part_of_sender (replay setup events).coordinator id number part.term ≡ None → ⊥
  found-part current none = search (arith, find-none, of, parts-in, given, eq-eqb, find, option_and_then, found-by)

  -- what a Recovered of server-same that is up is answered by
  answer-is : is_up (replay setup events).coordinator.servers id ≡ true →
      (takes_recovered (replay setup events).coordinator id number part.term).1
      ≡ (by_grant (replay setup events).coordinator id number part.term
      (grant_to (replay setup events).coordinator id part.term)).1
  answer-is up = search (arith, by_grant)

  granted-before : is_up (replay setup events).coordinator.servers id ≡ true → {grant : Grant} →
      grant_to (replay setup events).coordinator id part.term ≡ Some grant →
      IsAnsweredByOwn (replay setup events).coordinator id number part.term
  granted-before up {grant} is = record {
    grant = grant;
    term_is = eqb-true grant.term part.term tests.0;
    owner = same_id-true tests.1;
    answer = answer-is up ∙ ap
        (λ (found : Option Grant). (by_grant (replay setup events).coordinator id number part.term found).1)
        is;
  }
    where
      tests : (nat_eq grant.term part.term ≡ true) × (same_id grant.owner id ≡ true)
      tests = and_parts (nat_eq grant.term part.term) (same_id grant.owner id)
          (find-one (is_grant_to id part.term) (replay setup events).coordinator.grants is).1

  granted-now : is_up (replay setup events).coordinator.servers id ≡ true →
      grant_to (replay setup events).coordinator id part.term ≡ None → {mine : Part} →
      part_of_sender (replay setup events).coordinator id number part.term ≡ Some mine →
      IsAnsweredByOwn (replay setup events).coordinator id number part.term
  granted-now up none {mine} is = record {
    grant = grant_of number id mine;
    term_is = sender.term_is;
    owner = refl;
    answer = answer-is up ∙ (ap
        (λ (found : Option Grant). (by_grant (replay setup events).coordinator id number part.term found).1)
        none ∙ (ap (λ (found : Option Part). (by_part (replay setup events).coordinator id number found).1) is
        ∙ ap (λ b. (cond b (grants_anew (replay setup events).coordinator
        (assigned mine.range id mine.term (replay setup events).coordinator.tablets) (grant_of number id mine))
        ((replay setup events).coordinator, refuses_server id NoTable ∷ [])).1) has));
  }
    where
      good : GoodWorld (replay setup events)
      good = good-world setup events

      sender : IsSenders (replay setup events).coordinator id number part.term mine
      sender = senders (replay setup events).coordinator (attempt_at (replay setup events).coordinator number)
          (numbered-at (replay setup events).coordinator) is

      has : has_range mine.range (replay setup events).coordinator.tablets ≡ true
      has = ranged
          (sender-waits (replay setup events).sent (replay setup events).coordinator good.coordinator grants.good
          tablets sender none)

  pub planned-is-granted : (replay setup events).coordinator.current master ≡ number →
      is_up (replay setup events).coordinator.servers id ≡ true →
      IsAnsweredByOwn (replay setup events).coordinator id number part.term
  planned-is-granted current up = search (arith, by_part, found-part, granted-now, granted-before)

pub planned-parts-are-tablets : PlannedPartsAreTablets
planned-parts-are-tablets setup events id number master part planned current unowned =
    planned-is-tablet setup events id number master part planned current unowned

pub planned-parts-can-be-granted : PlannedPartsCanBeGranted
planned-parts-can-be-granted setup events id number master part planned current up =
    planned-is-granted setup events id number master part planned current up
