-- Each node of a world keeps its name.
use Rattle.std.proofs.Common.{◌≡◌, ℕ, List, [], ◌∷◌, Option, Some, None, refl, ap, ◌∙◌}
use Rattle.rc_model.specs.Model.{Event, Setup, Message, is_server, backup_takes, Master, master_takes, NodeWork, Deliver}
use Rattle.rc_model.specs.Model.{HostNode, host_step, is_for_backup, with_backup, with_master, server_takes, server_of, takes_if_running}
use Rattle.rc_model.specs.Model.{ticks_if_running, World, NodeName, TheOutside, TheCoordinator, TheHost, Job, node_done, job_done}
use Rattle.rc_model.specs.Model.{job_of, is_possible, opening, step, replay_from, replay}
use Rattle.rc_model.specs.Nodes.{Tick}
use Rattle.rc_model.proofs.Tests.{either}
use Rattle.rc_model.proofs.Tables.{put_each}
use Rattle.rc_history.specs.Nodes.{name_of, node_in}

server_takes-index : (host : HostNode) (master : Master) (message : Message) → (server_takes host master message).0.index ≡ host.index
server_takes-index host master message =
    either (λ after. after.0.index ≡ host.index) (is_for_backup message.body)
    (with_backup host (backup_takes host.backup message.from message.body))
    (with_master host (master_takes master message.from message.body))
    (λ _. refl) (λ _. refl)

takes-index : (host : HostNode) (running : Option Master) (message : Message) → (takes_if_running host running message).0.index ≡ host.index
takes-index host None message = refl
takes-index host (Some master) message =
    either (λ after. after.0.index ≡ host.index) (is_server (server_of host) message.to) (server_takes host master message) (host, [])
    (λ _. server_takes-index host master message) (λ _. refl)

ticks-index : (host : HostNode) (running : Option Master) → (ticks_if_running host running).0.index ≡ host.index
ticks-index host None = refl
ticks-index host (Some master) = refl

-- a host's work leaves its index
pub host_step-index : (host : HostNode) (work : NodeWork) → (host_step host work).0.index ≡ host.index
host_step-index host (Deliver message) = takes-index host host.master message
host_step-index host Tick = ticks-index host host.master
host_step-index host _ = refl

abbrev HasIndices : World → Type 0
HasIndices w = (index : ℕ) → (w.hosts index).index ≡ index

indices-node : (w : World) (event : Event) (name : NodeName) (work : NodeWork) → HasIndices w → HasIndices (node_done w event name work)
indices-node w event TheOutside work has = has
indices-node w event TheCoordinator work has = has
indices-node w event (TheHost index) work has =
    put_each (λ i host. host.index ≡ i) w.hosts index (host_step (w.hosts index) work).0
    (host_step-index (w.hosts index) work ∙ has index) has

indices-job : (w : World) (event : Event) (job : Option Job) → HasIndices w → HasIndices (job_done w event job)
indices-job w event None has = has
indices-job w event (Some job) has = indices-node w event job.node job.work has

indices-step : (w : World) (event : Event) → HasIndices w → HasIndices (step w event)
indices-step w event has =
    either HasIndices (is_possible w event) (job_done w event (job_of w.sent event)) w
    (λ _. indices-job w event (job_of w.sent event) has) (λ _. has)

indices-replay : (w : World) (events : List Event) → HasIndices w → HasIndices (replay_from w events)
indices-replay w [] has = has
indices-replay w (event ∷ events) has = indices-replay (step w event) events (indices-step w event has)

pub names-kept : (setup : Setup) (events : List Event) (name : NodeName) → name_of (node_in (replay setup events) name) ≡ name
names-kept setup events TheOutside = refl
names-kept setup events TheCoordinator = refl
names-kept setup events (TheHost index) = ap TheHost (indices-replay (opening setup) events (λ _. refl) index)
