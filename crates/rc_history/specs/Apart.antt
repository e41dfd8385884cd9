-- Steps of nodes that run apart, in an order in which each message is sent before it is delivered.
use Rattle.std.specs.Prelude.{◌≡◌, ℕ, true, if◌then◌else◌, List, [], ◌∷◌, ◌++◌, map, filter, Some, slice_get}
use Rattle.std.specs.List.{flat_map}
use Rattle.rc_types.specs.declared.events.Setup.{Setup}
use Rattle.rc_types.specs.declared.events.Event.{Event}
use Rattle.rc_types.specs.declared.messages.Message.{Message}
use Rattle.rc_model.specs.Nodes.{NodeWork, Deliver}
use Rattle.rc_model.specs.World.{NodeName, node_of, same_node, job_of}
use Rattle.rc_history.specs.Nodes.{Node, can_take, node_step, name_of, new_node}

-- one step of one node: the event and the work that it is given by it, where it is before and after, and what it sends
pub record Step : Type 0 where
  pub node : NodeName
  pub event : Event
  pub work : NodeWork
  pub before : Node
  pub after : Node
  pub sent : List Message

abbrev pub events_by : List Step → List Event
events_by steps = map (λ step. step.event) steps

-- all messages that these steps sent, in order; a message's number is its place
abbrev pub sent_by : List Step → List Message
sent_by steps = flat_map (λ step. step.sent) steps

abbrev pub own_steps : NodeName → List Step → List Step
own_steps name steps = filter (λ step. same_node step.node name) steps

-- where the last of these steps that is its own has left a node
abbrev pub left_at : NodeName → Node → List Step → Node
left_at name node [] = node
left_at name node (step ∷ steps) = left_at name (if same_node step.node name then step.after else node) steps

-- A step can be taken after these:
pub record Follows (setup : Setup) (earlier : List Step) (step : Step) : Type 0 where
  -- its event gives its node its work: a delivery, the message of that number that these have sent to this node;
  pub given : job_of (sent_by earlier) step.event ≡ Some (record { node = step.node; work = step.work })
  -- the node is where its own steps have left it;
  pub before : step.before ≡ left_at step.node (new_node setup step.node) earlier
  -- it can take this event with this work, and does what its rule says
  pub can : can_take step.before step.event step.work ≡ true
  pub state : step.after ≡ (node_step step.before step.work).0
  pub sends : step.sent ≡ (node_step step.before step.work).1

-- each step can be taken after those that stand before it
abbrev pub TakenApart : Setup → List Step → Type 0
TakenApart setup steps =
    (earlier later : List Step) (step : Step) → steps ≡ earlier ++ step ∷ later → Follows setup earlier step

-- a message that is delivered was sent, under this number, to this node
abbrev pub WasSent : List Message → Node → ℕ → NodeWork → Type 0
WasSent sent node number (Deliver message) =
    (slice_get sent number ≡ Some message) × (node_of message.to ≡ name_of node)
WasSent sent node number _ = Unit {0}
