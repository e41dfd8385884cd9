-- A seat as a value.
use Rattle.std.specs.Prelude.{ℕ, List, [], ◌∷◌, Option, Some, None}
use Rattle.rc_types.specs.declared.events.Setup.{Setup}
use Rattle.rc_types.specs.declared.events.Event.{Event}
use Rattle.rc_types.specs.declared.messages.Message.{Message}
use Rattle.rc_model.specs.World.{World, NodeName, replay}
use Rattle.rc_history.specs.Nodes.{Node, node_in}
use Rattle.rc_wire.specs.declared.offer.Offer.{Offer}

-- a step that the journal doesn't have yet: the node's event, and what the node has sent in it
pub record Offered : Type 0 where
  pub event : Event
  pub messages : List Message

pub record SeatData : Type 0 where
  pub name : NodeName
  -- the history as far as the seat has seen it, and its node's own events in it
  pub seen : List Event
  pub mine : List Event
  -- the message that is held, with its number
  pub held : Option (ℕ × Message)
  pub pending : Option Offered

abbrev pub offered_by : Option Offer → Option Offered
offered_by None = None
offered_by (Some offer) = Some (record { event = offer.event; messages = offer.messages.items })

-- the world that a seat has seen, and its own node there
abbrev pub world_at : Setup → SeatData → World
world_at setup seat = replay setup seat.seen

abbrev pub node_at : Setup → SeatData → Node
node_at setup seat = node_in (world_at setup seat) seat.name

-- what a seat's node has done, also what is pending
abbrev pub offered_events : Option Offered → List Event
offered_events None = []
offered_events (Some offered) = offered.event ∷ []

-- a seat that has seen and done nothing
abbrev pub new_seat : NodeName → SeatData
new_seat name = record { name = name; seen = []; mine = []; held = None; pending = None }
