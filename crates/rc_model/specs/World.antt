-- The world: all nodes, and all messages ever sent. An event is one input, taken by one node.
use Rattle.std.specs.Prelude.{ℕ, Bool, true, false, nat_eq, ◌&&◌, if◌then◌else◌, List, [], ◌∷◌, ◌++◌, Option, Some}
use Rattle.std.specs.Prelude.{None, slice_get, option_map}
use Rattle.std.specs.Option.{option_map_or}
use Rattle.std.specs.List.{fold}
use Rattle.rc_types.specs.declared.ids.ServerId.{ServerId}
use Rattle.rc_types.specs.declared.ids.Addr.TheVariants.{Server}
pub use Rattle.rc_types.specs.declared.ids.NodeName.{NodeName}
pub use Rattle.rc_types.specs.declared.ids.NodeName.TheVariants.{Outside as TheOutside, Coordinator as TheCoordinator}
pub use Rattle.rc_types.specs.declared.ids.NodeName.TheVariants.{Host as TheHost}
pub use Rattle.rc_types.specs.Names.{node_of}
use Rattle.rc_types.specs.declared.events.Setup.{Setup}
use Rattle.rc_types.specs.declared.events.Event.{Event}
use Rattle.rc_types.specs.declared.events.Event.TheVariants as event
use Rattle.rc_types.specs.declared.messages.Message.{Message}
use Rattle.rc_model.specs.Tables.{put, put_id}
use Rattle.rc_model.specs.Master.{Master, new_master}
use Rattle.rc_model.specs.Coordinator.{Coordinator, new_coordinator}
use Rattle.rc_model.specs.Nodes.{NodeWork, Ask, Deliver, Tick, Stop, Start, Ordered, HostNode}
use Rattle.rc_model.specs.Nodes.{new_host, master_setup, outside_can, outside_sends, coordinator_can}
use Rattle.rc_model.specs.Nodes.{coordinator_step, host_can, host_step, is_running_at}

pub record World : Type 0 where
  pub setup : Setup
  -- all that has happened, and all messages ever sent, each in order; a message's number is its place
  pub events : List Event
  pub sent : List Message
  pub hosts : ℕ → HostNode
  -- the last view of every master that ever ran
  pub masters : ServerId → Master
  pub coordinator : Coordinator

abbrev pub opening : Setup → World
opening setup = record {
  setup = setup;
  events = [];
  sent = [];
  hosts = λ index. new_host index (master_setup setup index);
  masters = λ id. new_master id (master_setup setup id.index);
  coordinator = new_coordinator;
}

-- Which node an event is for, and what it is given

abbrev pub same_node : NodeName → NodeName → Bool
same_node TheOutside TheOutside = true
same_node TheCoordinator TheCoordinator = true
same_node (TheHost index) (TheHost other) = nat_eq index other
same_node _ _ = false

pub record Job : Type 0 where
  pub node : NodeName
  pub work : NodeWork

-- the delivery of a message, where it was sent
abbrev pub delivery : Option Message → Option Job
delivery sent = option_map (λ message. record { node = node_of message.to; work = Deliver message }) sent

-- the job of an event, given what was sent; none where it delivers what was not
abbrev pub job_of : List Message → Event → Option Job
job_of sent (event.Ask to body) = Some (record { node = TheOutside; work = Ask to body })
job_of sent (event.Deliver number) = delivery (slice_get sent number)
job_of sent (event.Tick addr) = Some (record { node = node_of addr; work = Tick })
job_of sent (event.Stop id) = Some (record { node = TheHost id.index; work = Stop })
job_of sent (event.Start host kept) = Some (record { node = TheHost host; work = Start kept })
job_of sent (event.Order order) = Some (record { node = TheCoordinator; work = Ordered order })

-- whether the node can be given this now
abbrev pub node_can : World → NodeName → NodeWork → Bool
node_can world TheOutside work = outside_can work
node_can world TheCoordinator work = coordinator_can work
node_can world (TheHost index) work = host_can (world.hosts index) work

-- the server whose timer goes off, or that stops
abbrev pub server_named : Event → Option ServerId
server_named (event.Tick (Server id)) = Some id
server_named (event.Stop id) = Some id
server_named _ = None

-- a server that is named runs
abbrev pub runs_as_named : World → Event → Bool
runs_as_named world event =
    option_map_or (λ id. is_running_at (world.hosts id.index) (Server id)) (server_named event) true

abbrev pub is_possible_job : World → Option Job → Bool
is_possible_job world found = option_map_or (λ job. node_can world job.node job.work) found false

-- the event is possible in this world
abbrev pub is_possible : World → Event → Bool
is_possible world event = runs_as_named world event && is_possible_job world (job_of world.sent event)

-- The step

-- the last views with that of the host's master, where it runs
abbrev pub with_last_view : (ServerId → Master) → Option Master → ServerId → Master
with_last_view masters running = option_map_or (λ master. put_id masters master.log.own master) running masters

-- a host's new state is put into place
abbrev pub with_host : World → ℕ → HostNode → World
with_host world index host =
    record world { hosts = put world.hosts index host; masters = with_last_view world.masters host.master }

-- the event has happened, and these messages were sent in it
abbrev pub happened : Event → List Message → World → World
happened event messages world = record world { events = world.events ++ event ∷ []; sent = world.sent ++ messages }

abbrev pub coordinator_done : World → Event → Coordinator × List Message → World
coordinator_done world event (coordinator, messages) =
    happened event messages (record world { coordinator = coordinator })

abbrev pub host_done : World → Event → ℕ → HostNode × List Message → World
host_done world event index (host, messages) = happened event messages (with_host world index host)

-- one node takes its work: its state changes, and its messages are added to those sent
abbrev pub node_done : World → Event → NodeName → NodeWork → World
node_done world event TheOutside work = happened event (outside_sends work) world
node_done world event TheCoordinator work = coordinator_done world event (coordinator_step world.coordinator work)
node_done world event (TheHost index) work = host_done world event index (host_step (world.hosts index) work)

abbrev pub job_done : World → Event → Option Job → World
job_done world event found = option_map_or (λ job. node_done world event job.node job.work) found world

-- a step; an event that isn't possible changes nothing
abbrev pub step : World → Event → World
step world event = if is_possible world event then job_done world event (job_of world.sent event) else world

abbrev pub replay_from : World → List Event → World
replay_from world events = fold step world events

-- the world that a list of events leads to
abbrev pub replay : Setup → List Event → World
replay setup events = replay_from (opening setup) events

-- the view of a master, also of one that has stopped
abbrev pub master_of : World → ServerId → Master
master_of world id = world.masters id
