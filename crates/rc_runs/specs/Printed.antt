-- What is printed of a scenario.
use Rattle.std.specs.Prelude.{ℕ, List, [], ◌++◌, Option, Some, None, Result, Ok, Err}
use Rattle.rc_types.specs.declared.faults.Code.{Code}
use Rattle.rc_types.specs.declared.faults.Code.TheVariants.{BadEvent}
use Rattle.rc_model.specs.Report.{report}
use Rattle.rc_reading.specs.declared.scenarios.Scenario.{Scenario}
use Rattle.rc_reading.specs.Scenario.{reading}
use Rattle.rc_traces.specs.Ends.{stopped_line, error_line}
use Rattle.rc_runs.specs.Runs.{Ended, scenario_run}

abbrev pub stop_text : Code → Option ℕ → List ℕ
stop_text code None = []
stop_text code (Some place) = stopped_line code place

abbrev pub ended_text : Code → Ended → List ℕ
ended_text code ended = report ended.world.sent ++ stop_text code ended.stopped

abbrev pub scenario_text : Result Scenario ℕ → List ℕ
scenario_text (Ok scenario) = ended_text BadEvent (scenario_run scenario)
scenario_text (Err place) = error_line place

-- what is printed for these bytes, if memory is never refused
abbrev pub printed : List ℕ → List ℕ
printed bytes = scenario_text (reading bytes)
