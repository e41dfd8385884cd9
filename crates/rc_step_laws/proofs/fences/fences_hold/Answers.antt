use Rattle.rc_step_laws.proofs.Fencing.{fences-hold, who-answered-is-fenced}
use Rattle.rc_step_laws.proofs.Staying.{fenced-replicas-stay}
use Rattle.rc_step_laws.proofs.fences.fences_hold.Goals as goal

pub returns-clause-silent : goal.returns-clause-silent
returns-clause-silent c = fences-hold

pub returns-clause-fenced : goal.returns-clause-fenced
returns-clause-fenced c = who-answered-is-fenced

pub returns-clause-stay : goal.returns-clause-stay
returns-clause-stay c = fenced-replicas-stay
