-- The nodes of a world and what they have sent, as the definitions see a world.
use Rattle.std.specs.Prelude.{◌≡◌, ℕ, nat_eq, List, Option, Some, None}
use Rattle.std.specs.declared.hash.FoldHasher.{FoldHasher}
use Rattle.std.specs.declared.hash.BuildHasherDefault.{BuildHasherDefault}
use Rattle.indexmap.specs.IndexMap.{IndexMap, get}
use Rattle.rc_types.specs.declared.events.Setup.{Setup}
use Rattle.rc_types.specs.declared.events.Event.{Event}
use Rattle.rc_types.specs.declared.messages.Message.{Message}
use Rattle.rc_model.specs.Coordinator.{Coordinator}
use Rattle.rc_model.specs.CoordinatorStep.{coordinator_takes}
use Rattle.rc_model.specs.Nodes.{HostNode, NodeWork, new_host, master_setup, host_step}
use Rattle.rc_model.specs.World.{World, opening, job_of, job_done}
use Rattle.rc_coordinator.specs.Book.{coordinator_of}
use Rattle.rc_coordinator.specs.Steps.{HasNumbers}
use Rattle.rc_world.specs.HostView.{HostData, host_of, HostHasRoom}
use Rattle.rc_world.specs.declared.nodes.Nodes.{Nodes}

abbrev pub Hosts : Type 0
Hosts = IndexMap ℕ HostData (BuildHasherDefault FoldHasher)

-- a host that isn't kept was never started
abbrev pub host_at : Setup → ℕ → Option HostData → HostNode
host_at setup index None = new_host index (master_setup setup index)
host_at setup index (Some host) = host_of host

-- each host by its index
abbrev pub hosts_of : Setup → Hosts → ℕ → HostNode
hosts_of setup hosts index = host_at setup index (get nat_eq hosts index)

-- the world of these nodes, in which these messages were sent; events and masters that have stopped are left out
abbrev pub world_of : {A : _} → Nodes A → List Message → World
world_of nodes sent = record (opening nodes.setup) {
  sent = sent;
  hosts = hosts_of nodes.setup nodes.hosts;
  coordinator = coordinator_of nodes.coordinator;
}

abbrev pub hosts_in : {A : _} → Nodes A → ℕ → HostNode
hosts_in nodes = hosts_of nodes.setup nodes.hosts

abbrev pub coordinator_in : {A : _} → Nodes A → Coordinator
coordinator_in nodes = coordinator_of nodes.coordinator

-- what a host of these nodes does with this work
abbrev pub host_does : {A : _} → Nodes A → ℕ → NodeWork → HostNode × List Message
host_does nodes index work = host_step (hosts_in nodes index) work

-- what the coordinator does with this message
abbrev pub coordinator_given : Coordinator → Message → Coordinator × List Message
coordinator_given c message = coordinator_takes c message.from message.body

-- the world after the event
abbrev pub after_event : {A : _} → Nodes A → List Message → Event → World
after_event nodes sent event = job_done (world_of nodes sent) event (job_of sent event)

-- the worlds have the same nodes, and the same was sent in them
pub record IsSame (one other : World) : Type 0 where
  pub sent : one.sent ≡ other.sent
  pub hosts : one.hosts ≡ other.hosts
  pub coordinator : one.coordinator ≡ other.coordinator

-- the numbers of its nodes suffice for one more step
pub record WorldHasRoom (world : World) : Type 0 where
  pub coordinator : HasNumbers world.coordinator
  pub hosts : (index : ℕ) → HostHasRoom (world.hosts index)
