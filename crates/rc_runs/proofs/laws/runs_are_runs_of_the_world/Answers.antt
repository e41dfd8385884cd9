use Rattle.rc_runs.proofs.RunLaws.{scenario_is_run}
use Rattle.rc_runs.proofs.laws.runs_are_runs_of_the_world.Goals as goal

pub returns-clause-replays : goal.returns-clause-replays
returns-clause-replays c most scenario = (scenario_is_run most scenario).replayed

pub returns-clause-short : goal.returns-clause-short
returns-clause-short c most scenario = (scenario_is_run most scenario).few
