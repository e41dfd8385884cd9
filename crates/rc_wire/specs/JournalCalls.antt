-- What the calls of a journal tell.
use Rattle.std.specs.Prelude.{◌≡◌, ℕ, ◌<◌, true, List, [], ◌∷◌, ◌++◌, length, map}
use Rattle.std.specs.List.{range_with_len}
use Rattle.rc_types.specs.declared.events.Setup.{Setup}
use Rattle.rc_types.specs.declared.events.Event.{Event}
use Rattle.rc_types.specs.declared.messages.Message.{Message}
use Rattle.rc_model.specs.World.{replay, is_possible, job_of}
use Rattle.rc_history.specs.Events.{is_for}
use Rattle.rc_wire.specs.declared.view.Desk.{Desk}
use Rattle.rc_wire.specs.declared.view.Place.{Place}
use Rattle.rc_wire.specs.Views.{name_at, new_place}
use Rattle.rc_wire.specs.Law.{Knows}
use Rattle.rc_wire.specs.Names.{WireName}
use Rattle.rc_wire.specs.Sound.{IsHistory}

-- the tokens of a new wire, by number: each has seen and done nothing
abbrev pub new_places : ℕ → List Place
new_places nodes = map new_place (range_with_len 0 nodes)

-- the keeper of a wire with so many seats in which nothing has happened
abbrev pub seated : Setup → ℕ → Desk
seated setup nodes = record { setup = setup; history = []; next = nodes }

-- what a journal's history is to a seat that looks or adds: it begins with what the seat has seen, and has of its node
-- the seat's own events
pub record Tells (name : WireName) (log : List Event) (place : Place) : Type 0 where
  pub history : IsHistory name log
  pub seated : place.node < name.nodes
  pub knows : Knows name.setup log place

-- the seat has seen the history
abbrev pub having_seen : Place → List Event → Place
having_seen seat history = record seat { seen = history }

-- the event is the next step of the seat's node, and these are the messages that it sends
pub record IsStep (name : WireName) (history : List Event) (seat : Place) (event : Event) (messages : List Message) :
    Type 0 where
  pub possible : is_possible (replay name.setup history) event ≡ true
  pub own : is_for (name_at seat.node) (job_of (replay name.setup history).sent event) ≡ true
  pub sends : (replay name.setup (history ++ event ∷ [])).sent ≡ (replay name.setup history).sent ++ messages

-- and the event, the last of the history, is one of its own
abbrev pub having_added : Place → List Event → Event → Place
having_added seat history event = record seat { seen = history ++ event ∷ []; mine = seat.mine ++ event ∷ [] }

-- the event has been added under this number
pub record Adds (name : WireName) (log : List Event) (place : Place) (event : Event) (at : ℕ) (log_after : List Event)
    (place_after : Place) : Type 0 where
  pub number : at ≡ length log
  pub longer : log_after ≡ log ++ event ∷ []
  pub seat : place_after ≡ having_added place log event
  pub tells : Tells name log place
  pub history : IsHistory name log_after
