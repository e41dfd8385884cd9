-- What is true of each seat.
use Rattle.std.specs.Prelude.{◌≡◌, ℕ, ◌≤◌, nat_eq, List, length, Option}
use Rattle.std.specs.List.{list_any}
use Rattle.rc_types.specs.declared.limits.TheConstants.{MAX_EVENTS}
use Rattle.rc_types.specs.declared.events.Setup.{Setup}
use Rattle.rc_types.specs.declared.messages.Message.{Message}
use Rattle.rc_history.specs.Nodes.{Node}
use Rattle.rc_history.specs.Events.{events_of}
use Rattle.rc_wire.specs.declared.view.Place.{Place}
use Rattle.rc_types.specs.declared.ids.NodeName.{NodeName}
use Rattle.rc_types.specs.Names.{number_of}
use Rattle.rc_wire.specs.declared.offer.Offer.{Offer}
use Rattle.rc_wire.specs.SeatView.{SeatData, offered_by, world_at, node_at}
use Rattle.rc_wire.specs.Steps.{HasTaken, HoldsItsMessage}
use Rattle.rc_wire.specs.SeatCalls.{has_delivered}

-- a seat's fields as its value: what it has seen and done, its token knows
abbrev pub seat_data : NodeName → Place → Option (ℕ × Message) → Option Offer → SeatData
seat_data name place held offer =
    record { name = name; seen = place.seen; mine = place.mine; held = held; pending = offered_by offer }

-- its token's number, its node's state, and the numbers of the messages that it has delivered
pub record SeatSound (setup : Setup) (seat : SeatData) (number : ℕ) (node : Node) (numbers : List ℕ) : Type 0 where
  -- the token sits for the seat's node
  pub sits : number ≡ number_of seat.name
  pub few : length seat.seen ≤ MAX_EVENTS
  -- what the node has done is what it takes in the history that the seat has seen
  pub mine : events_of setup seat.name seat.seen ≡ seat.mine
  -- the state is that of the node there, or the one that the pending step leads it to
  pub state : HasTaken (world_at setup seat).sent seat.name (node_at setup seat) seat.pending node
  pub held : HoldsItsMessage (world_at setup seat).sent seat.held
  pub delivered : (n : ℕ) → list_any (nat_eq n) numbers ≡ has_delivered seat n
