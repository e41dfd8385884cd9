use Rattle.rc_model.proofs.StepSends.{closes-are-due}
use Rattle.rc_model.proofs.sends.closes_are_final.Goals as goal

pub returns : goal.returns
returns c = closes-are-due
