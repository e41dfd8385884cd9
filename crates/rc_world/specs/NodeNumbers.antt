-- How great the numbers of a node that runs apart are, after so many works of all nodes.
use Rattle.std.specs.Prelude.{ℕ, ◌+◌, ◌≤◌, List, length}
use Rattle.rc_types.specs.declared.events.Setup.{Setup}
use Rattle.rc_types.specs.declared.events.Event.{Event}
use Rattle.rc_types.specs.declared.messages.Message.{Message}
use Rattle.rc_types.specs.declared.limits.TheConstants.{MAX_EVENTS}
use Rattle.rc_model.specs.Coordinator.{new_coordinator}
use Rattle.rc_model.specs.Nodes.{new_host, master_setup}
use Rattle.rc_model.specs.World.{NodeName, replay}
use Rattle.rc_step_laws.specs.Numbers.{CoordinatorWithin, HostWithin, MessagesWithin, body_within}
use Rattle.rc_history.specs.Nodes.{Node, TheOutside, TheCoordinator, TheHost, node_in, node_step}
use Rattle.rc_world.specs.NodeView.{NodeHasRoom}
use Rattle.rc_types.specs.declared.events.NodeWork.{NodeWork}
use Rattle.rc_types.specs.declared.events.NodeWork.TheVariants.{Ask, Deliver}

-- the node's numbers are those that so many works can bring about
abbrev pub NodeWithin : ℕ → Node → Type 0
NodeWithin n TheOutside = Unit {0}
NodeWithin n (TheCoordinator c) = CoordinatorWithin n c
NodeWithin n (TheHost host) = HostWithin n host

-- so are the versions in what a node is given
abbrev pub GivenWithin : ℕ → NodeWork → Type 0
GivenWithin n (Ask to body) = body_within n body
GivenWithin n (Deliver message) = body_within n message.body
GivenWithin n _ = Unit {0}

pub record NewNodesAreWithin : Type 0 where
  pub outside : NodeWithin 0 TheOutside
  pub coordinator : NodeWithin 0 (TheCoordinator new_coordinator)
  pub hosts : (index : ℕ) (setup : Setup) → NodeWithin 0 (TheHost (new_host index (master_setup setup index)))

-- the node after a step, and what it sent
pub record StepWithin (n : ℕ) (after : Node × List Message) : Type 0 where
  pub node : NodeWithin n after.0
  pub sent : MessagesWithin n after.1

abbrev pub StepsStayWithin : Type 0
StepsStayWithin = (n : ℕ) (node : Node) (work : NodeWork) → NodeWithin n node → GivenWithin n work →
    StepWithin (n + 1) (node_step node work)

abbrev pub MoreWorksAllowMore : Type 0
MoreWorksAllowMore = (n m : ℕ) (node : Node) → n ≤ m → NodeWithin n node → NodeWithin m node

abbrev pub NodesHaveRoom : Type 0
NodesHaveRoom = (n : ℕ) (node : Node) → n ≤ MAX_EVENTS → NodeWithin n node → NodeHasRoom node

-- each node of a history within the limit has room, whatever else has happened
abbrev pub HistoriesLeaveRoom : Type 0
HistoriesLeaveRoom = (setup : Setup) (events : List Event) (name : NodeName) → length events ≤ MAX_EVENTS →
    NodeHasRoom (node_in (replay setup events) name)
