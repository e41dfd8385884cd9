-- What a reader of the definition of a scenario's run would expect.
use Rattle.std.specs.Prelude.{◌≡◌, ℕ, ◌≤◌, length}
use Rattle.rc_model.specs.World.{replay}
use Rattle.rc_reading.specs.declared.scenarios.Scenario.{Scenario}
use Rattle.rc_runs.specs.Runs.{run_within}

-- the world in which a run ends is what its events lead to
abbrev pub RunsAreReplays : Type 0
RunsAreReplays = (most : ℕ) (scenario : Scenario) → let world =
    (run_within most scenario).world in world ≡ replay scenario.setup world.events

-- and there are no more of them than it has room for
abbrev pub RunsAreShort : Type 0
RunsAreShort = (most : ℕ) (scenario : Scenario) → length (run_within most scenario).world.events ≤ most
