-- A step that one node has taken, said of this node alone, so that it stays true whatever other nodes do.
use Rattle.std.specs.Prelude.{◌≡◌, ℕ, true, List, Option, Some, None, slice_get}
use Rattle.rc_types.specs.declared.messages.Message.{Message}
use Rattle.rc_types.specs.declared.events.NodeWork.{NodeWork}
use Rattle.rc_model.specs.World.{NodeName, job_of}
use Rattle.rc_history.specs.Nodes.{Node, can_take, node_step}
use Rattle.rc_wire.specs.SeatView.{Offered}

-- where these messages were sent, what is offered is a step of the node of this name, which leads it from one state to
-- the next
pub record IsStep (sent : List Message) (name : NodeName) (one : Node) (offered : Offered) (next : Node) : Type 0 where
  -- the event gives this node its work: a delivery, the message of that number, which was sent to this node;
  pub work : NodeWork
  pub given : job_of sent offered.event ≡ Some (record { node = name; work = work })
  -- the node can take this event with this work, and does what its rule says
  pub can : can_take one offered.event work ≡ true
  pub state : next ≡ (node_step one work).0
  pub sends : offered.messages ≡ (node_step one work).1

-- a node that was here is there now: it has taken the step that is offered, if one is
abbrev pub HasTaken : List Message → NodeName → Node → Option Offered → Node → Type 0
HasTaken sent name before None after = after ≡ before
HasTaken sent name before (Some offered) after = IsStep sent name before offered after

-- the message that is held is the one of this number
abbrev pub HoldsItsMessage : List Message → Option (ℕ × Message) → Type 0
HoldsItsMessage sent None = Unit {0}
HoldsItsMessage sent (Some held) = slice_get sent held.0 ≡ Some held.1
