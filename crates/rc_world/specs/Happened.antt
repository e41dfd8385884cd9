-- A world as a value: what it was opened with, and all that has happened in it. All else is what these events lead to.
use Rattle.std.specs.Prelude.{◌≡◌, Bool, true, nat_lt, ◌&&◌, List, [], ◌∷◌, ◌++◌, length}
use Rattle.rc_types.specs.declared.limits.TheConstants.{MAX_EVENTS}
use Rattle.rc_types.specs.declared.events.Setup.{Setup}
use Rattle.rc_types.specs.declared.events.Event.{Event}
use Rattle.rc_types.specs.declared.messages.Message.{Message}
use Rattle.rc_model.specs.World.{World, replay, is_possible}

pub record Happened : Type 0 where
  pub setup : Setup
  pub events : List Event

-- the world of the definitions
abbrev pub replayed : Happened → World
replayed world = replay world.setup world.events

-- nothing has happened yet
abbrev pub opened : Setup → Happened
opened setup = record { setup = setup; events = [] }

-- the world after these events more
abbrev pub with_events : Happened → List Event → Happened
with_events world events = record world { events = world.events ++ events }

-- all messages ever sent in it
abbrev pub sent_in : Happened → List Message
sent_in world = (replayed world).sent

-- the event can happen: there is room for it, and it is possible
abbrev pub can_happen : Happened → Event → Bool
can_happen world event = nat_lt (length world.events) MAX_EVENTS && is_possible (replayed world) event

-- the events can happen one after another
abbrev pub AllHappen : Happened → List Event → Type 0
AllHappen world [] = Unit {0}
AllHappen world (event ∷ events) = (can_happen world event ≡ true) × AllHappen (with_events world (event ∷ [])) events
