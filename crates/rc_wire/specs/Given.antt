-- What a node is given, inside of `prepare`.
use Rattle.std.specs.Prelude.{◌≡◌, ℕ, Bool, true, false, if◌then◌else◌, Option, Some, None}
use Rattle.rc_types.specs.declared.messages.Message.{Message}
use Rattle.rc_model.specs.World.{NodeName, same_node, node_of}
use Rattle.rc_history.specs.Nodes.{Node, event_of, node_step}
use Rattle.rc_types.specs.declared.events.NodeWork.{NodeWork}
use Rattle.rc_types.specs.declared.events.NodeWork.TheVariants as given
use Rattle.rc_wire.specs.declared.offer.Offer.{Offer}

abbrev pub is_delivery : NodeWork → Bool
is_delivery (given.Deliver message) = true
is_delivery _ = false

-- the number of a message that is held, where it is one to this node
abbrev pub own_number : NodeName → Option (ℕ × Message) → Option ℕ
own_number name None = None
own_number name (Some held) = if same_node (node_of held.1.to) name then Some held.0 else None

-- the node has done this, which is offered; a message has this number
pub record Does (before : Node) (number : ℕ) (work : NodeWork) (offer : Offer) (after : Node) : Type 0 where
  pub event : offer.event ≡ event_of before number work
  pub state : after ≡ (node_step before work).0
  pub sends : offer.messages.items ≡ (node_step before work).1
