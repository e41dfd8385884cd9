use Rattle.rc_step_laws.proofs.WorldNumbers.{within-replay}
use Rattle.rc_step_laws.proofs.bounds.numbers_grow_slowly.Goals as goal

pub returns : goal.returns
returns c = within-replay
