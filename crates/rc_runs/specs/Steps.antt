-- How far a run has come: to another world, or to its stop. Memory that is refused is like room for no more events
-- than have happened.
use Rattle.std.specs.Prelude.{◌≡◌, ℕ, ◌≤◌, List, length, Some, None, Result, Ok, Err}
use Rattle.rc_types.specs.declared.faults.Fault.{Fault}
use Rattle.rc_types.specs.declared.faults.Fault.TheVariants.{OutOfMemory}
use Rattle.rc_types.specs.declared.limits.TheConstants.{MAX_EVENTS}
use Rattle.rc_model.specs.World.{World}
use Rattle.rc_world.specs.Happened.{Happened, replayed}
use Rattle.rc_reading.specs.declared.scenarios.ScenarioEvent.{ScenarioEvent}
use Rattle.rc_runs.specs.Runs.{run_from}

-- with room for its events, the step leads from one world to the other
abbrev pub GoesOn : (ℕ → World → Result World World) → Happened → Happened → Type 0
GoesOn step old new = (most : ℕ) → length new.events ≤ most → step most (replayed old) ≡ Ok (replayed new)

-- for how many events there was room, where the run stopped in this world
abbrev pub room_at : Fault → Happened → ℕ
room_at OutOfMemory world = length world.events
room_at _ world = MAX_EVENTS

-- with no more room, the step stops in the other world
abbrev pub StopsIn : (ℕ → World → Result World World) → Fault → Happened → Happened → Type 0
StopsIn step fault old new = step (room_at fault new) (replayed old) ≡ Err (replayed new)

-- the same of a scenario's events
abbrev pub RunsThrough : List ScenarioEvent → Happened → Happened → Type 0
RunsThrough events old new = (most : ℕ) → length new.events ≤ most →
    run_from most 0 (replayed old) events ≡ record { world = replayed new; stopped = None }

abbrev pub StopsAt : List ScenarioEvent → ℕ → Fault → Happened → Happened → Type 0
StopsAt events place fault old new =
    run_from (room_at fault new) 0 (replayed old) events ≡ record { world = replayed new; stopped = Some place }
