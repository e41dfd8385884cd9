use Rattle.rc_model.proofs.Telling.{tells-only-of-fenced}
use Rattle.rc_model.proofs.backups.answers_are_of_the_fenced.Goals as goal

pub returns : goal.returns
returns c = tells-only-of-fenced
