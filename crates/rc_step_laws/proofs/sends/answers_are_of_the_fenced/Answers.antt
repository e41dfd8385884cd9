use Rattle.rc_step_laws.proofs.InEvents.{the-fenced-are-told}
use Rattle.rc_step_laws.proofs.sends.answers_are_of_the_fenced.Goals as goal

pub returns : goal.returns
returns c = the-fenced-are-told
