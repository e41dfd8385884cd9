use Rattle.rc_model.proofs.Storing.{fenced-nothing, fenced-stay, gather-fences}
use Rattle.rc_model.proofs.backups.fences_hold.Goals as goal

pub returns-clause-nothing : goal.returns-clause-nothing
returns-clause-nothing c = fenced-nothing

pub returns-clause-stay : goal.returns-clause-stay
returns-clause-stay c backup from body master = fenced-stay backup from body master

pub returns-clause-gather : goal.returns-clause-gather
returns-clause-gather c = gather-fences
