-- What the world should obey.
use Rattle.std.specs.Prelude.{◌≡◌, ℕ, ◌≤◌, true, false, if◌then◌else◌, List, [], ◌∷◌, ◌++◌}
use Rattle.rc_types.specs.declared.events.Setup.{Setup}
use Rattle.rc_types.specs.declared.events.Event.{Event}
use Rattle.rc_types.specs.declared.messages.Message.{Message}
use Rattle.rc_model.specs.World.{World, NodeName, TheCoordinator, TheHost, same_node, is_possible, step, replay_from}
use Rattle.rc_model.specs.World.{replay}
use Rattle.rc_model.specs.Works.{works_of, host_after, coordinator_after}

-- the world after one more event is one step further
abbrev pub OneMoreEventIsAStep : Type 0
OneMoreEventIsAStep = (setup : Setup) (events : List Event) (event : Event) →
    replay setup (events ++ event ∷ []) ≡ step (replay setup events) event

-- an event that isn't possible changes nothing
abbrev pub ImpossibleChangesNothing : Type 0
ImpossibleChangesNothing = (world : World) (event : Event) → is_possible world event ≡ false → step world event ≡ world

-- an event is noted exactly where it is possible
abbrev pub PossibleIsNoted : Type 0
PossibleIsNoted = (world : World) (event : Event) →
    (step world event).events ≡ (if is_possible world event then world.events ++ event ∷ [] else world.events)

-- what was sent stays sent, in its order
abbrev pub SentOnlyGrows : Type 0
SentOnlyGrows = (world : World) (event : Event) → (more : List Message) × ((step world event).sent ≡ world.sent ++ more)

-- a host's generation never falls
abbrev pub GenerationsNeverFall : Type 0
GenerationsNeverFall = (world : World) (event : Event) (index : ℕ) →
    (world.hosts index).generation ≤ ((step world event).hosts index).generation

-- the test of nodes tells the same ones
abbrev pub SameNodesAreEqual : Type 0
SameNodesAreEqual = (a b : NodeName) → same_node a b ≡ true → a ≡ b

abbrev pub EachNodeIsTheSame : Type 0
EachNodeIsTheSame = (a : NodeName) → same_node a a ≡ true

-- a host's state is what its own works make of it, and the coordinator's is
abbrev pub HostsFollowTheirWorks : Type 0
HostsFollowTheirWorks = (world : World) (events : List Event) (index : ℕ) →
    (replay_from world events).hosts index ≡ host_after (world.hosts index) (works_of (TheHost index) world events)

abbrev pub CoordinatorFollowsItsWorks : Type 0
CoordinatorFollowsItsWorks = (world : World) (events : List Event) →
    (replay_from world events).coordinator ≡ coordinator_after world.coordinator (works_of TheCoordinator world events)
