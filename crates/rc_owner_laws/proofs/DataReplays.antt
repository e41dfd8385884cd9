-- What holds of data holds of every world that a list of events leads to.
use Rattle.std.proofs.Common.{arith}
use Rattle.std.proofs.Common.{◌≡◌, ◌⊎◌, ℕ, true, List, [], ◌∷◌, ◌++◌, Option, Some, None, refl, sym, subst, inl, inr}
use Rattle.std.proofs.lemmas.Bool.{and_parts}
use Rattle.rc_model.specs.Model.{ServerId, Addr, Server, Setup, Event, Message, Body, Log, Master, master_takes, master_ticks, NodeWork}
use Rattle.rc_model.specs.Model.{is_for_clients, outside_can, outside_sends, coordinator_step, server_of, host_step, World, opening}
use Rattle.rc_model.specs.Model.{NodeName, TheOutside, TheCoordinator, TheHost, Job, job_of, node_can, is_possible_job, is_possible}
use Rattle.rc_model.specs.Model.{node_done, job_done, step, replay_from, replay, In, next_server, to_coordinator}
use Rattle.rc_types.specs.declared.messages.Body.TheVariants as body
use Rattle.rc_model.specs.Coordinator.{Coordinator}
use Rattle.rc_model.specs.Nodes.{Ask}
use Rattle.rc_step_laws.specs.Moves.{MasterMoved, CoordinatorMoved, body_said, coordinator_body_said}
use Rattle.rc_model.proofs.Sending.{each-one}
use Rattle.rc_step_laws.proofs.NodeWalk.{walked-host}
use Rattle.rc_step_laws.proofs.Replays.{GoodWorld, GoodStep, IsGiven, job_of-given, coordinator-moved, led-step, good-step, good-opening}
use Rattle.rc_owner_laws.specs.Data.{data_fine, DataAreCuts}
use Rattle.rc_owner_laws.proofs.DataCuts.{data-later, IsNoData, no-data-fine, backup-fine}
use Rattle.rc_model.proofs.Replays.{possible-job}
use Rattle.rc_model.proofs.Tests.{true_false, either}
use Rattle.rc_step_laws.proofs.Copies.{In-either}

abbrev pub CutsOf : World → Type 0
CutsOf world = DataAreCuts world.sent world.masters

-- messages that are fine by what was sent before them
abbrev AllFine : World → List Message → Type 0
AllFine world messages = (message : Message) → In message messages → data_fine world.sent world.masters message.from message.to message.body

-- Who sends no data

by_master : (sent sent_now : List Message) (m : ServerId) (old log : Log) (to : Addr) (says : Body) →
    body_said sent sent_now m old log to says → IsNoData says
by_master sent sent_now m old log to (body.Data attempt seg term entries) said = absurd said
by_master sent sent_now m old log to _ said = tt

by_coordinator : (c : Coordinator) (to : Addr) (says : Body) → coordinator_body_said c to says → IsNoData says
by_coordinator c to (body.Data attempt seg term entries) said = absurd said
by_coordinator c to _ said = tt

by_clients : (says : Body) → is_for_clients says ≡ true → IsNoData says
by_clients (body.Data attempt seg term entries) e = true_false (sym e)
by_clients _ e = tt

fine-none : (world : World) → AllFine world []
fine-none world message at = absurd at

fine-outside : (world : World) (work : NodeWork) → outside_can work ≡ true → AllFine world (outside_sends work)
fine-outside world (Ask to asked) can message (inl same) = search (arith, no-data-fine, by_clients, and_parts)
fine-outside world (Ask to asked) can message (inr never) = absurd never
fine-outside world _ can message at = absurd at

fine-moved : (world : World) (after : Coordinator × List Message) →
    CoordinatorMoved world.sent world.coordinator after → AllFine world after.1
fine-moved world after is message at = no-data-fine world.sent world.masters message.from message.to message.body
    (by_coordinator after.0 message.to message.body (is.says message at))

fine-coordinator : (world : World) (work : NodeWork) → GoodWorld world → IsGiven world.sent TheCoordinator work →
    AllFine world (coordinator_step world.coordinator work).1
fine-coordinator world work good given =
    fine-moved world (coordinator_step world.coordinator work) (coordinator-moved world work good given)

-- Hosts

module _ (world : World) (one : Event) (i : ℕ) (good : GoodWorld world) where
  fine-master : (master : Master) (after : Master × List Message) →
      MasterMoved world.sent (server_of (world.hosts i)) master after → AllFine world after.1
  fine-master master after is message at = no-data-fine world.sent world.masters message.from message.to message.body
      (by_master world.sent (world.sent ++ after.1) (server_of (world.hosts i)) master.log after.0.log message.to
      message.body (is.says message at).says)

  fine-host : (work : NodeWork) → IsGiven world.sent (TheHost i) work → AllFine world (host_step (world.hosts i) work).1
  fine-host work given = walked-host world one i good (λ after. AllFine world after.1) (record {
    still = fine-none world;
    backs = λ master e from says at moved.
        backup-fine world.sent world.masters i (world.hosts i).generation (world.hosts i).backup (good.hosts_are i).held from says
        (subst (λ (id : ServerId). In (record { from = from; to = Server id; body = says }) world.sent)
        (sym (good.hosts_are i).own) at);
    takes = λ master e from says at moved. fine-master master (master_takes master from says) moved;
    ticks = λ master e moved. fine-master master (master_ticks master) moved;
    stops = fine-none world;
    starts = λ kept. each-one (λ (message : Message). data_fine world.sent world.masters message.from message.to message.body) tt;
  }) work given

-- Events

-- each message of the next world was sent before, or is fine by what was
abbrev IsNext : World → World → Type 0
IsNext world after = (message : Message) → In message after.sent →
    In message world.sent ⊎ data_fine world.sent world.masters message.from message.to message.body

next-sent : (world : World) (messages : List Message) → AllFine world messages → (message : Message) →
    In message (world.sent ++ messages) → In message world.sent ⊎ data_fine world.sent world.masters message.from
    message.to message.body
next-sent world messages fine message at = In-either message world.sent messages at (λ old. inl old) (λ new. inr (fine message new))

next-node : (world : World) (one : Event) (node : NodeName) (work : NodeWork) → GoodWorld world →
    IsGiven world.sent node work → node_can world node work ≡ true → IsNext world (node_done world one node work)
next-node world one TheOutside work good given can = next-sent world (outside_sends work) (fine-outside world work can)
next-node world one TheCoordinator work good given can =
    next-sent world (coordinator_step world.coordinator work).1 (fine-coordinator world work good given)
next-node world one (TheHost i) work good given can =
    next-sent world (host_step (world.hosts i) work).1 (fine-host world one i good work given)

next-job : (world : World) (one : Event) (found : Option Job) → job_of world.sent one ≡ found → GoodWorld world →
    is_possible_job world found ≡ true → IsNext world (job_done world one found)
next-job world one None is good can = λ message at. inl at
next-job world one (Some job) is good can = next-node world one job.node job.work good (job_of-given world.sent one is) can

next-step : (world : World) (one : Event) → GoodWorld world → IsNext world (step world one)
next-step world one good =
    either (IsNext world) (is_possible world one) (job_done world one (job_of world.sent one)) world
    (λ can. next-job world one (job_of world.sent one) refl good (possible-job world one can)) (λ _ message at. inl at)

cuts-step : (world : World) (one : Event) → GoodWorld world → CutsOf world → CutsOf (step world one)
cuts-step world one good p message at = by (next-step world one good message at)
  where
    led : GoodStep world (step world one)
    led = led-step world one good

    later : data_fine world.sent world.masters message.from message.to message.body →
        data_fine (step world one).sent (step world one).masters message.from message.to message.body
    later = data-later world.sent world.masters (step world one).masters led.onward.more
        (λ m. (led.onward.grown m).later) message.from message.to message.body

    by : In message world.sent ⊎ data_fine world.sent world.masters message.from message.to message.body →
        data_fine (step world one).sent (step world one).masters message.from message.to message.body
    by (inl old) = later (p message old)
    by (inr new) = later new

cuts-from : (world : World) (events : List Event) → GoodWorld world → CutsOf world → CutsOf (replay_from world events)
cuts-from world [] good p = p
cuts-from world (one ∷ events) good p = cuts-from (step world one) events (good-step world one good) (cuts-step world one good p)

-- they hold of every world
pub data-world : (setup : Setup) (events : List Event) → CutsOf (replay setup events)
data-world setup events = cuts-from (opening setup) events (good-opening setup) (λ message at. absurd at)
