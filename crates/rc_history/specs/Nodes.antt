-- A node by itself: what it can be given and what it then does. And where each node of a world is.
use Rattle.std.specs.Prelude.{ℕ, Bool, true, false, ◌&&◌, List}
use Rattle.std.specs.Option.{option_map_or}
use Rattle.rc_types.specs.declared.ids.ServerId.{ServerId}
use Rattle.rc_types.specs.declared.ids.Addr.{Addr}
use Rattle.rc_types.specs.declared.ids.Addr.TheVariants.{Server, Coordinator as AtCoordinator, Outside}
use Rattle.rc_types.specs.declared.events.Setup.{Setup}
use Rattle.rc_types.specs.declared.events.Event.{Event}
use Rattle.rc_types.specs.declared.events.Event.TheVariants as event
use Rattle.rc_types.specs.declared.messages.Message.{Message}
use Rattle.rc_model.specs.Coordinator.{Coordinator, new_coordinator}
use Rattle.rc_model.specs.Nodes.{NodeWork, Ask, Deliver, Tick, Stop, Start, Ordered}
use Rattle.rc_model.specs.Nodes.{HostNode, server_of, outside_can, outside_sends, coordinator_can, coordinator_step}
use Rattle.rc_model.specs.Nodes.{host_can, host_step, new_host, master_setup, is_running_at}
use Rattle.rc_model.specs.World.{World, NodeName, server_named}
use Rattle.rc_model.specs.World as named

pub data Node : Type 0 where
  TheOutside : Node
  TheCoordinator : (c : Coordinator) → Node
  TheHost : (host : HostNode) → Node

-- this server runs on the node
abbrev pub is_running_on : Node → ServerId → Bool
is_running_on (TheHost host) id = is_running_at host (Server id)
is_running_on _ id = false

-- whether the node can be given this
abbrev pub node_can : Node → NodeWork → Bool
node_can TheOutside work = outside_can work
node_can (TheCoordinator c) work = coordinator_can work
node_can (TheHost host) work = host_can host work

abbrev pub with_coordinator : Coordinator × List Message → Node × List Message
with_coordinator (c, messages) = (TheCoordinator c, messages)

abbrev pub with_host : HostNode × List Message → Node × List Message
with_host (host, messages) = (TheHost host, messages)

-- the server that the event names, if it names one, runs on the node, and the node can be given the work
abbrev pub can_take : Node → Event → NodeWork → Bool
can_take node event work = option_map_or (is_running_on node) (server_named event) true && node_can node work

-- the node after it was given this, and what it sends
abbrev pub node_step : Node → NodeWork → Node × List Message
node_step TheOutside work = (TheOutside, outside_sends work)
node_step (TheCoordinator c) work = with_coordinator (coordinator_step c work)
node_step (TheHost host) work = with_host (host_step host work)

-- the node of this name before anything has happened
abbrev pub new_node : Setup → NodeName → Node
new_node setup named.TheOutside = TheOutside
new_node setup named.TheCoordinator = TheCoordinator new_coordinator
new_node setup (named.TheHost index) = TheHost (new_host index (master_setup setup index))

-- the node of this name in a world
abbrev pub node_in : World → NodeName → Node
node_in world named.TheOutside = TheOutside
node_in world named.TheCoordinator = TheCoordinator world.coordinator
node_in world (named.TheHost index) = TheHost (world.hosts index)

-- a node's own name
abbrev pub name_of : Node → NodeName
name_of TheOutside = named.TheOutside
name_of (TheCoordinator c) = named.TheCoordinator
name_of (TheHost host) = named.TheHost host.index

-- the node's own server; the outside and the coordinator have none
abbrev pub own_server : Node → ServerId
own_server (TheHost host) = server_of host
own_server _ = record { index = 0; generation = 0 }

abbrev pub own_addr : Node → Addr
own_addr TheOutside = Outside
own_addr (TheCoordinator c) = AtCoordinator
own_addr (TheHost host) = Server (server_of host)

-- the event of a work: a message goes by its number, a timer and a stop are those of the node's own server
abbrev pub event_of : Node → ℕ → NodeWork → Event
event_of node number (Ask to body) = event.Ask to body
event_of node number (Deliver message) = event.Deliver number
event_of node number Tick = event.Tick (own_addr node)
event_of node number Stop = event.Stop (own_server node)
event_of node number (Start kept) = event.Start (own_server node).index kept
event_of node number (Ordered order) = event.Order order
