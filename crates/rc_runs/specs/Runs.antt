-- A scenario as a run: which events of the world it makes, and where it stops. A run may have room for so many events:
-- `MAX_EVENTS` are as many as a world takes, and fewer stand for memory that was refused before the next.
use Rattle.std.specs.Prelude.{ℕ, ◌+◌, nat_lt, ◌&&◌, if◌then◌else◌, List, [], ◌∷◌, length, Option, Some, None, Result}
use Rattle.std.specs.Prelude.{Ok, Err}
use Rattle.rc_types.specs.declared.events.Event.{Event}
use Rattle.rc_types.specs.declared.limits.TheConstants.{MAX_EVENTS}
use Rattle.rc_model.specs.World.{World, opening, step, is_possible}
use Rattle.rc_reading.specs.declared.scenarios.Scenario.{Scenario}
use Rattle.rc_reading.specs.declared.scenarios.ScenarioEvent.{ScenarioEvent}
use Rattle.rc_reading.specs.declared.scenarios.ScenarioEvent.TheVariants.{Core, Settle}
use Rattle.rc_runs.specs.Settling.{settles}

-- the run goes on after the event of the world; where that isn't possible, or no room is left, this world stands
abbrev pub one_event : ℕ → World → Event → Result World World
one_event most world event =
    if nat_lt (length world.events) most && is_possible world event then Ok (step world event) else Err world

-- an event of the scenario: one event of the world, or a pass over the messages
abbrev pub scenario_event : ℕ → World → ScenarioEvent → Result World World
scenario_event most world (Core event) = one_event most world event
scenario_event most world (Settle kinds hosts) = settles most (record { kinds = kinds; hosts = hosts }) world

-- what a run has come to: the world, and the scenario's event at which it stopped
pub record Ended : Type 0 where
  pub world : World
  pub stopped : Option ℕ

abbrev pub goes_on : ℕ → (World → Ended) → Result World World → Ended
goes_on place rest (Ok world) = rest world
goes_on place rest (Err world) = record { world = world; stopped = Some place }

-- the events, of which the first has this place
abbrev pub run_from : ℕ → ℕ → World → List ScenarioEvent → Ended
run_from most place world [] = record { world = world; stopped = None }
run_from most place world (event ∷ events) =
    goes_on place (λ next. run_from most (place + 1) next events) (scenario_event most world event)

-- the run of a scenario with room for so many events
abbrev pub run_within : ℕ → Scenario → Ended
run_within most scenario = run_from most 0 (opening scenario.setup) scenario.events

abbrev pub scenario_run : Scenario → Ended
scenario_run scenario = run_within MAX_EVENTS scenario
