-- How a world goes on.
use Rattle.std.proofs.Common.{◌≡◌, ℕ, ◌≤◌, Bool, true, false, cond, nat_eq, ◌&&◌, List, [], ◌∷◌, ◌++◌, Option, Some, None}
use Rattle.std.proofs.Common.{refl, sym, ap, ◌∙◌, arith}
use Rattle.std.proofs.lemmas.Bool.{eqb-true, and_parts}
use Rattle.std.proofs.lemmas.List.{append-nil}
use Rattle.rc_model.specs.Model.{Event, Message, Master, NodeWork, Deliver, HostNode}
use Rattle.rc_model.specs.Model.{host_step, coordinator_step, server_takes}
use Rattle.rc_model.specs.Model.{takes_if_running, ticks_if_running, World, NodeName, TheOutside, TheCoordinator, TheHost, Job, same_node}
use Rattle.rc_model.specs.Model.{step, is_possible, is_possible_job, runs_as_named, node_done, job_done, replay_from}
use Rattle.rc_model.specs.Model.{job_of, work_if_for, work_in, works_of, host_after, coordinator_after}
use Rattle.rc_model.specs.Coordinator.{Coordinator}
use Rattle.rc_model.specs.Nodes.{Tick}
use Rattle.rc_model.proofs.Tests.{either, true_false}

-- one more event at the end is one more step
pub replay_from-push : (world : World) (events : List Event) (event : Event) →
    replay_from world (events ++ event ∷ []) ≡ step (replay_from world events) event
replay_from-push world [] event = refl
replay_from-push world (first ∷ events) event = replay_from-push (step world first) events event

-- an event that isn't possible changes nothing
pub step-impossible : (world : World) (event : Event) → is_possible world event ≡ false → step world event ≡ world
step-impossible world event not_possible = ap (λ b. cond b (job_done world event (job_of world.sent event)) world) not_possible

-- a possible event is a job that its node can be given
pub possible-job : (world : World) (event : Event) → is_possible world event ≡ true →
    is_possible_job world (job_of world.sent event) ≡ true
possible-job world event possible =
    (and_parts (runs_as_named world event) (is_possible_job world (job_of world.sent event)) possible).1

noted_node : (world : World) (event : Event) (node : NodeName) (work : NodeWork) →
    (node_done world event node work).events ≡ world.events ++ event ∷ []
noted_node world event TheOutside work = refl
noted_node world event TheCoordinator work = refl
noted_node world event (TheHost index) work = refl

noted_job : (world : World) (event : Event) (job : Option Job) → is_possible_job world job ≡ true →
    (job_done world event job).events ≡ world.events ++ event ∷ []
noted_job world event None possible = true_false (sym possible)
noted_job world event (Some job) possible = noted_node world event job.node job.work

noted_if : (world : World) (event : Event) (job : Option Job) (named b : Bool) → (named && is_possible_job world job) ≡ b →
    (cond b (job_done world event job) world).events ≡ cond b (world.events ++ event ∷ []) world.events
noted_if world event job named true possible = noted_job world event job (and_parts named (is_possible_job world job) possible).1
noted_if world event job named false possible = refl

-- an event that is possible is noted, and nothing else is
pub noted : (world : World) (event : Event) →
    (step world event).events ≡ cond (is_possible world event) (world.events ++ event ∷ []) world.events
noted world event = noted_if world event (job_of world.sent event) (runs_as_named world event) (is_possible world event) refl

-- the later world has sent what the earlier one has, and more
abbrev pub HasSentMore : World → World → Type 0
HasSentMore old new = (more : List Message) × (new.sent ≡ old.sent ++ more)

sent_more-same : (world : World) → HasSentMore world world
sent_more-same world = ([], sym (append-nil world.sent))

sent_more-node : (world : World) (event : Event) (node : NodeName) (work : NodeWork) → HasSentMore world (node_done world event node work)
sent_more-node world event TheOutside work = (_, refl)
sent_more-node world event TheCoordinator work = (_, refl)
sent_more-node world event (TheHost index) work = (_, refl)

sent_more-job : (world : World) (event : Event) (job : Option Job) → HasSentMore world (job_done world event job)
sent_more-job world event None = sent_more-same world
sent_more-job world event (Some job) = sent_more-node world event job.node job.work

-- what was sent stays sent
pub sent_more-step : (world : World) (event : Event) → HasSentMore world (step world event)
sent_more-step world event =
    either (HasSentMore world) (is_possible world event) (job_done world event (job_of world.sent event)) world
    (λ _. sent_more-job world event (job_of world.sent event)) (λ _. sent_more-same world)

-- A node's own works

host_of_node : (world : World) (event : Event) (index : ℕ) (node : NodeName) (work : NodeWork) →
    (node_done world event node work).hosts index ≡ host_after (world.hosts index) (cond (same_node node (TheHost index)) (work ∷ []) [])
host_of_node world event index TheOutside work = refl
host_of_node world event index TheCoordinator work = refl
host_of_node world event index (TheHost other) work = search (arith, nat_eq, eqb-true)

host_of_job : (world : World) (event : Event) (index : ℕ) (job : Option Job) →
    (job_done world event job).hosts index ≡ host_after (world.hosts index) (work_if_for (TheHost index) job)
host_of_job world event index None = refl
host_of_job world event index (Some job) = host_of_node world event index job.node job.work

host_if : (world : World) (event : Event) (index : ℕ) (job : Option Job) (b : Bool) →
    (cond b (job_done world event job) world).hosts index ≡ host_after (world.hosts index) (cond b (work_if_for (TheHost index) job) [])
host_if world event index job true = host_of_job world event index job
host_if world event index job false = refl

-- one event gives a host its own work, if any
pub host_step-own : (world : World) (event : Event) (index : ℕ) →
    (step world event).hosts index ≡ host_after (world.hosts index) (work_in (TheHost index) world event)
host_step-own world event index = host_if world event index (job_of world.sent event) (is_possible world event)

host_after-append : (host : HostNode) (works others : List NodeWork) →
    host_after host (works ++ others) ≡ host_after (host_after host works) others
host_after-append host [] others = refl
host_after-append host (work ∷ works) others = host_after-append (host_step host work).0 works others

-- a host's state is what its own works make of it
pub hosts-follow : (world : World) (events : List Event) (index : ℕ) →
    (replay_from world events).hosts index ≡ host_after (world.hosts index) (works_of (TheHost index) world events)
hosts-follow world [] index = refl
hosts-follow world (event ∷ events) index =
    hosts-follow (step world event) events index
    ∙ (ap (λ host. host_after host (works_of (TheHost index) (step world event) events)) (host_step-own world event index)
    ∙ sym (host_after-append (world.hosts index) (work_in (TheHost index) world event)
    (works_of (TheHost index) (step world event) events)))

coordinator_of_node : (world : World) (event : Event) (node : NodeName) (work : NodeWork) →
    (node_done world event node work).coordinator ≡ coordinator_after world.coordinator
    (cond (same_node node TheCoordinator) (work ∷ []) [])
coordinator_of_node world event TheOutside work = refl
coordinator_of_node world event TheCoordinator work = refl
coordinator_of_node world event (TheHost other) work = refl

coordinator_of_job : (world : World) (event : Event) (job : Option Job) →
    (job_done world event job).coordinator ≡ coordinator_after world.coordinator (work_if_for TheCoordinator job)
coordinator_of_job world event None = refl
coordinator_of_job world event (Some job) = coordinator_of_node world event job.node job.work

coordinator_if : (world : World) (event : Event) (job : Option Job) (b : Bool) →
    (cond b (job_done world event job) world).coordinator ≡ coordinator_after world.coordinator (cond b (work_if_for TheCoordinator job) [])
coordinator_if world event job true = coordinator_of_job world event job
coordinator_if world event job false = refl

-- one event gives the coordinator its own work, if any
pub coordinator_step-own : (world : World) (event : Event) →
    (step world event).coordinator ≡ coordinator_after world.coordinator (work_in TheCoordinator world event)
coordinator_step-own world event = coordinator_if world event (job_of world.sent event) (is_possible world event)

coordinator_after-append : (c : Coordinator) (works others : List NodeWork) →
    coordinator_after c (works ++ others) ≡ coordinator_after (coordinator_after c works) others
coordinator_after-append c [] others = refl
coordinator_after-append c (work ∷ works) others = coordinator_after-append (coordinator_step c work).0 works others

-- the coordinator's state is what its own works make of it
pub coordinator-follows : (world : World) (events : List Event) →
    (replay_from world events).coordinator ≡ coordinator_after world.coordinator (works_of TheCoordinator world events)
coordinator-follows world [] = refl
coordinator-follows world (event ∷ events) =
    coordinator-follows (step world event) events
    ∙ (ap (λ c. coordinator_after c (works_of TheCoordinator (step world event) events)) (coordinator_step-own world event)
    ∙ sym (coordinator_after-append world.coordinator (work_in TheCoordinator world event)
    (works_of TheCoordinator (step world event) events)))

-- Generations

server_takes-generation : (host : HostNode) (master : Master) (message : Message) →
    (server_takes host master message).0.generation ≡ host.generation
server_takes-generation host master message = search (arith, either)

takes-generation : (host : HostNode) (running : Option Master) (message : Message) →
    (takes_if_running host running message).0.generation ≡ host.generation
takes-generation host None message = refl
takes-generation host (Some master) message = search (arith, either, server_takes-generation)

ticks-generation : (host : HostNode) (running : Option Master) → (ticks_if_running host running).0.generation ≡ host.generation
ticks-generation host None = refl
ticks-generation host (Some master) = refl

-- a host's work never lowers its generation
pub generation-step : (host : HostNode) (work : NodeWork) → host.generation ≤ (host_step host work).0.generation
generation-step host (Deliver message) = let e : (takes_if_running host host.master message).0.generation ≡ host.generation
    = takes-generation host host.master message in omega arith
generation-step host Tick = let e : (ticks_if_running host host.master).0.generation ≡ host.generation =
    ticks-generation host host.master in omega arith
generation-step host _ = omega arith

generation-after : (host : HostNode) (works : List NodeWork) → host.generation ≤ (host_after host works).generation
generation-after host [] = omega arith
generation-after host (work ∷ works) =
    let first : host.generation ≤ (host_step host work).0.generation = generation-step host work in
    let rest : (host_step host work).0.generation ≤ (host_after (host_step host work).0 works).generation =
    generation-after (host_step host work).0 works in
    omega arith

-- nor does an event
pub generations-step : (world : World) (event : Event) (index : ℕ) →
    (world.hosts index).generation ≤ ((step world event).hosts index).generation
generations-step world event index = search (arith, host_step-own, generation-after)
