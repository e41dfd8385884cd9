use Rattle.rc_step_laws.proofs.Replays.{good-world}
use Rattle.rc_step_laws.proofs.facts.facts_hold.Goals as goal

pub returns : goal.returns
returns c = good-world
