use Rattle.rc_model.proofs.StepSends.{commits-are-due}
use Rattle.rc_model.proofs.sends.commits_are_of_placed_segments.Goals as goal

pub returns : goal.returns
returns c = commits-are-due
