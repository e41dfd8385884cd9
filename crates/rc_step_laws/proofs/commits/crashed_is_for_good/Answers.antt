use Rattle.rc_step_laws.proofs.Crashing.{crashed-is-never-up}
use Rattle.rc_step_laws.proofs.commits.crashed_is_for_good.Goals as goal

pub returns : goal.returns
returns c = crashed-is-never-up
