use Rattle.rc_worked.proofs.Scenarios.{scenarios-are-replays}
use Rattle.rc_worked.proofs.happening.scenarios_are_replays.Goals as goal

pub returns : goal.returns
returns c = scenarios-are-replays
