-- What holds of tablets and grants holds of every world that a list of events leads to.
use Rattle.std.proofs.Common.{arith}
use Rattle.std.proofs.Common.{◌≡◌, ℕ, true, List, [], ◌∷◌, ◌++◌, Option, Some, None, sym, subst, inl, inr}
use Rattle.std.proofs.lemmas.Bool.{and_parts}
use Rattle.rc_model.specs.Model.{ServerId, Addr, Server, Setup, Event, Message, Body, put, Backup, Log, Master, NodeWork, HostNode}
use Rattle.rc_model.specs.Model.{is_for_clients, outside_can, outside_sends, coordinator_step, server_of, host_step, World, opening}
use Rattle.rc_model.specs.Model.{NodeName, TheOutside, TheCoordinator, TheHost, Job, job_of, node_can, is_possible_job}
use Rattle.rc_model.specs.Model.{node_done, job_done, step, replay_from, replay, next_server, to_coordinator}
use Rattle.rc_types.specs.declared.messages.Body.TheVariants as body
use Rattle.rc_model.specs.Coordinator.{Coordinator}
use Rattle.rc_model.specs.Nodes.{Ask}
use Rattle.rc_step_laws.specs.Moves.{CoordinatorLater, body_said, backup_body_said}
use Rattle.rc_step_laws.proofs.Replays.{GoodWorld, IsGiven, job_of-given, coordinator-moved, good-step, good-opening}
use Rattle.rc_step_laws.proofs.NodeWalk.{said-host}
use Rattle.rc_model.proofs.Sending.{each-one}
use Rattle.rc_owner_laws.specs.Grants.{own_said, GoodGrants, GrantsKept}
use Rattle.rc_owner_laws.proofs.Decided.{OwnSaid, OwnSays}
use Rattle.rc_owner_laws.proofs.OwnerSteps.{moved, new-grants}
use Rattle.rc_owner_laws.proofs.OwnersOrdered.{kept-step, kept-others, kept-none}
use Rattle.rc_model.proofs.Replays.{possible-job}
use Rattle.rc_model.proofs.Tests.{true_false}

pub record GrantsWorld (sent : List Message) (c : Coordinator) : Type 0 where
  pub good : GoodGrants c
  pub kept : GrantsKept sent c

abbrev pub OfWorld : World → Type 0
OfWorld world = GrantsWorld world.sent world.coordinator

-- another node than the coordinator sends no Own and no Plan
others : {sent : List Message} {c : Coordinator} (messages : List Message) → GrantsWorld sent c → OwnSays c messages →
    GrantsWorld (sent ++ messages) c
others {sent} {c} messages p says = record { good = p.good; kept = kept-others sent c p.kept messages says }

by_master : (c : Coordinator) (sent sent_now : List Message) (m : ServerId) (old log : Log) (to : Addr) (says : Body) →
    body_said sent sent_now m old log to says → own_said c to says
by_master c sent sent_now m old log to (body.Own range term before attempt) said = absurd said
by_master c sent sent_now m old log to (body.Plan head number master rows parts) said = absurd said
by_master c sent sent_now m old log to _ said = tt

by_backup : (c : Coordinator) (sent : List Message) (masters : ServerId → Master) (hosts : ℕ → HostNode)
    (host : HostNode) (backup : Backup) (to : Addr) (says : Body) →
    backup_body_said sent masters hosts c host backup to says → own_said c to says
by_backup c sent masters hosts host backup to (body.Own range term before attempt) said = absurd said
by_backup c sent masters hosts host backup to (body.Plan head number master rows parts) said = absurd said
by_backup c sent masters hosts host backup to _ said = tt

by_clients : (c : Coordinator) (to : Addr) (says : Body) → is_for_clients says ≡ true → own_said c to says
by_clients c to (body.Own range term before attempt) e = true_false (sym e)
by_clients c to (body.Plan head number master rows parts) e = true_false (sym e)
by_clients c to _ e = tt

says-outside : (c : Coordinator) (work : NodeWork) → outside_can work ≡ true → OwnSays c (outside_sends work)
says-outside c (Ask to asked) can message (inl same) = subst (λ (one : Message). own_said c one.to one.body) (sym same)
    (by_clients c (Server to) asked (and_parts (is_for_clients asked) _ can).0)
says-outside c (Ask to asked) can message (inr never) = absurd never
says-outside c _ can message at = absurd at

says-host : (world : World) (one : Event) (i : ℕ) → GoodWorld world → (work : NodeWork) → IsGiven world.sent (TheHost i) work →
    OwnSays world.coordinator (host_step (world.hosts i) work).1
says-host world one i good work given = said-host world one i good (OwnSays world.coordinator) (record {
  none = λ message at. absurd at;
  backs = λ after moved message at. by_backup world.coordinator (world.sent ++ after.1) world.masters
      (put world.hosts i (record (world.hosts i) { backup = after.0 })) (world.hosts i) after.0 message.to message.body
      (moved.says message at);
  moves = λ master after moved message at. by_master world.coordinator world.sent (world.sent ++ after.1)
      (server_of (world.hosts i)) master.log after.0.log message.to message.body (moved.says message at).says;
  starts = each-one (OwnSaid world.coordinator) tt;
}) work given

pub later-coordinator : (world : World) (work : NodeWork) → GoodWorld world → IsGiven world.sent TheCoordinator work →
    CoordinatorLater world.coordinator (coordinator_step world.coordinator work).0
later-coordinator world work good given = (coordinator-moved world work good given).later

grants-node : (world : World) (one : Event) (node : NodeName) (work : NodeWork) → GoodWorld world → OfWorld world →
    IsGiven world.sent node work → node_can world node work ≡ true → OfWorld (node_done world one node work)
grants-node world one TheOutside work good p given can =
    others (outside_sends work) p (says-outside world.coordinator work can)
grants-node world one TheCoordinator work good p given can = record {
  good = (moved world.sent world.coordinator good.coordinator p.good work).good;
  kept = kept-step world.sent world.coordinator p.kept (coordinator_step world.coordinator work)
      (later-coordinator world work good given) (moved world.sent world.coordinator good.coordinator p.good work);
}
grants-node world one (TheHost i) work good p given can =
    others (host_step (world.hosts i) work).1 p (says-host world one i good work given)

grants-job : (world : World) (one : Event) (found : Option Job) → job_of world.sent one ≡ found → GoodWorld world →
    OfWorld world → is_possible_job world found ≡ true → OfWorld (job_done world one found)
grants-job world one None is good p can = p
grants-job world one (Some job) is good p can = grants-node world one job.node job.work good p (job_of-given world.sent one is) can

pub grants-step : (world : World) (one : Event) → GoodWorld world → OfWorld world → OfWorld (step world one)
grants-step world one good p = search (arith, grants-job, possible-job)

grants-from : (world : World) (events : List Event) → GoodWorld world → OfWorld world → OfWorld (replay_from world events)
grants-from world [] good p = p
grants-from world (one ∷ events) good p = grants-from (step world one) events (good-step world one good) (grants-step world one good p)

-- they hold before the first event, and so of every world
pub grants-opening : (setup : Setup) → OfWorld (opening setup)
grants-opening setup = record { good = new-grants; kept = kept-none }

pub grants-world : (setup : Setup) (events : List Event) → OfWorld (replay setup events)
grants-world setup events = grants-from (opening setup) events (good-opening setup) (grants-opening setup)
