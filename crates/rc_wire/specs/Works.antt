-- What a work is as an event of a seat's node, and to the node.
use Rattle.std.specs.Prelude.{◌≡◌, ℕ, Bool, true, false, nat_eq, List, ◌++◌, Option, Some, None, option_map}
use Rattle.std.specs.List.{list_any}
use Rattle.std.specs.Option.{option_map_or}
use Rattle.rc_types.specs.declared.events.Setup.{Setup}
use Rattle.rc_types.specs.declared.events.Event.{Event}
use Rattle.rc_types.specs.declared.events.Event.TheVariants as event
use Rattle.rc_types.specs.declared.events.NodeWork.{NodeWork}
use Rattle.rc_types.specs.declared.events.NodeWork.TheVariants as given
use Rattle.rc_types.specs.declared.messages.Message.{Message}
use Rattle.rc_model.specs.World.{World, NodeName, step}
use Rattle.rc_history.specs.Nodes.{Node, event_of}
use Rattle.rc_history.specs.Events.{takes}
use Rattle.rc_wire.specs.declared.work.Work.{Work}
use Rattle.rc_wire.specs.declared.work.Work.TheVariants as work
use Rattle.rc_wire.specs.SeatView.{SeatData, Offered, world_at, node_at}

-- what the node is given by a work; nothing by Fetched, whose message the seat holds
abbrev pub given_of : Work → Option NodeWork
given_of work.Fetched = None
given_of (work.Ask to body) = Some (given.Ask to body)
given_of work.Tick = Some given.Tick
given_of work.Stop = Some given.Stop
given_of (work.Start kept) = Some (given.Start kept)
given_of (work.Order order) = Some (given.Order order)

-- the event of a work; where it is Fetched, that of the message that is held, if there is one
abbrev pub event_for : Node → Option (ℕ × Message) → Work → Option Event
event_for node held given =
    option_map_or (λ one. Some (event_of node 0 one)) (given_of given) (option_map (λ h. event.Deliver h.0) held)

-- the work that an event is, where it is no delivery
abbrev pub work_in : Event → Option Work
work_in (event.Ask to body) = Some (work.Ask to body)
work_in (event.Deliver number) = None
work_in (event.Tick addr) = Some work.Tick
work_in (event.Stop id) = Some work.Stop
work_in (event.Start host kept) = Some (work.Start kept)
work_in (event.Order order) = Some (work.Order order)

-- whether there is an event, it is possible, and it is this node's
abbrev pub takes_if : NodeName → World → Option Event → Bool
takes_if name world found = option_map_or (takes name world) found false

-- whether this is an event that the seat's node takes after what the seat has seen
abbrev pub is_offered : Setup → SeatData → Option Event → Bool
is_offered setup seat event = takes_if seat.name (world_at setup seat) event

-- whether the seat's node can do this work
abbrev pub can_do : Setup → SeatData → Work → Bool
can_do setup seat given = is_offered setup seat (event_for (node_at setup seat) seat.held given)

-- Fetched takes the message that is held
abbrev pub held_after : Option (ℕ × Message) → Work → Option (ℕ × Message)
held_after held work.Fetched = None
held_after held _ = held

-- in this world the event is possible and this node's, and these are the messages that are sent in it
pub record IsOffer (world : World) (name : NodeName) (offered : Offered) : Type 0 where
  pub takes : takes name world offered.event ≡ true
  pub sends : (step world offered.event).sent ≡ world.sent ++ offered.messages

-- a step on this event is pending, and this is held; else nothing has changed
pub record Offers (setup : Setup) (old : SeatData) (said : Option Event) (held : Option (ℕ × Message)) (new : SeatData)
    : Type 0 where
  pub offered : Offered
  pub event : said ≡ Some offered.event
  pub step : IsOffer (world_at setup old) old.name offered
  pub after : new ≡ record old { held = held; pending = Some offered }

-- the work is pending, as the event that it is, with the messages that the node sends in it
abbrev pub Prepares : Setup → SeatData → Work → SeatData → Type 0
Prepares setup old given new =
    Offers setup old (event_for (node_at setup old) old.held given) (held_after old.held given) new

-- the event delivers the message of this number
abbrev pub is_delivery_of : ℕ → Event → Bool
is_delivery_of number (event.Deliver other) = nat_eq number other
is_delivery_of number _ = false

-- whether one of these events delivers it
abbrev pub was_delivered : List Event → ℕ → Bool
was_delivered events number = list_any (is_delivery_of number) events
