use Rattle.rc_model.proofs.StepSends.{deposed-only-refuse, deposed-do-not-tick}
use Rattle.rc_model.proofs.sends.deposed_masters_only_refuse.Goals as goal

pub returns-clause-takes : goal.returns-clause-takes
returns-clause-takes c = deposed-only-refuse

pub returns-clause-ticks : goal.returns-clause-ticks
returns-clause-ticks c = deposed-do-not-tick
