-- Power failure after each of some events of so many hosts: all servers stop, all hosts start again with what they have
-- kept, and all crashed servers are recovered as far as that goes.
use Rattle.std.specs.Prelude.{ℕ, zero, suc, ◌+◌, ◌%◌, false, nat_eq, if◌then◌else◌, List, [], ◌∷◌, ◌++◌, take}
use Rattle.std.specs.Prelude.{filter, is_some}
use Rattle.rc_types.specs.declared.ids.ServerId.{ServerId}
use Rattle.rc_types.specs.declared.ids.Addr.TheVariants.{Server, Coordinator}
use Rattle.rc_types.specs.declared.events.Setup.{Setup}
use Rattle.rc_types.specs.declared.events.Event.{Event}
use Rattle.rc_model.specs.Backup.{open_names}
use Rattle.rc_model.specs.Breach.{breach}
use Rattle.rc_model.specs.Nodes.{is_running_at}
use Rattle.rc_model.specs.World.{World, replay}
use Rattle.rc_reading.specs.declared.scenarios.ScenarioEvent.{ScenarioEvent}
use Rattle.rc_types.specs.declared.events.Event.TheVariants.{Stop, Start, Tick, Order}
use Rattle.rc_types.specs.declared.events.Order.TheVariants.{Decide}
use Rattle.rc_reading.specs.declared.scenarios.ScenarioEvent.TheVariants.{Core}
use Rattle.rc_runs.specs.declared.cutting.Keeping.{Keeping}
use Rattle.rc_runs.specs.declared.cutting.Keeping.TheVariants.{All, OddSegments, Nothing}
use Rattle.rc_runs.specs.Draw.{drawing_setup, settled, played, newest_server}

-- what is kept of these replicas
abbrev pub keeps : Keeping → List (ServerId × ℕ) → List (ServerId × ℕ)
keeps All names = names
keeps OddSegments names = filter (λ name. nat_eq (name.1 % 2) 1) names
keeps Nothing names = []

-- the lists of all numbers below this one, in order
unfoldable pub gathered : (ℕ → List ScenarioEvent) → ℕ → List ScenarioEvent
gathered part zero = []
gathered part (suc n) = gathered part n ++ part n

-- the newest server of the host stops, where it runs
abbrev pub stop_of : World → ℕ → List ScenarioEvent
stop_of world host =
    if is_running_at (world.hosts host) (Server (newest_server world host))
    then Core (Stop (newest_server world host)) ∷ []
    else []

-- the host starts, where it was ever started
abbrev pub start_of : Keeping → World → ℕ → List ScenarioEvent
start_of keeping world host =
    if nat_eq (world.hosts host).generation 0 then []
    else Core (Start host (keeps keeping (open_names (world.hosts host).backup))) ∷ []

-- the recovery of each of the host's servers up to the newest is decided
abbrev pub decision_of : ℕ → ℕ → List ScenarioEvent
decision_of host before = Core (Order (Decide (record { index = host; generation = before + 1 }))) ∷ []

abbrev pub decisions_of : World → ℕ → List ScenarioEvent
decisions_of world host = gathered (decision_of host) (world.hosts host).generation

-- what follows a power failure in this world of so many hosts
abbrev pub cut_scene : ℕ → Keeping → World → List ScenarioEvent
cut_scene hosts keeping world =
    gathered (stop_of world) hosts ++ gathered (start_of keeping world) hosts
    ++ settled ∷ Core (Tick Coordinator) ∷ settled ∷ [] ++ gathered (decisions_of world) hosts ++ settled ∷ []

-- the world that it leads to, after these events
abbrev pub cut_from : ℕ → Keeping → World → World
cut_from hosts keeping world = played world (cut_scene hosts keeping world)

unfoldable pub cut_world : Setup → ℕ → Keeping → List Event → World
cut_world setup hosts keeping events = cut_from hosts keeping (replay setup events)

-- 1 where a breach is found in it
unfoldable pub breaks : World → ℕ
breaks world = if is_some (breach world.sent) then 1 else 0

-- in how many ways a power failure after these events leads to a breach
unfoldable pub breaches_at : Setup → ℕ → List Event → ℕ
breaches_at setup hosts events = breaks (cut_world setup hosts All events)
    + breaks (cut_world setup hosts OddSegments events) + breaks (cut_world setup hosts Nothing events)

-- the same of a power failure after each of the first so many events
unfoldable pub breaches_of : Setup → ℕ → List Event → ℕ → ℕ
breaches_of setup hosts events zero = 0
breaches_of setup hosts events (suc n) =
    breaches_of setup hosts events n + breaches_at setup hosts (take (suc n) events)

-- of drawn events
abbrev pub breaches_below : List Event → ℕ → ℕ
breaches_below = breaches_of (drawing_setup false) 5
