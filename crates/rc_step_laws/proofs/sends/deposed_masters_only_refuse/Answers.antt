use Rattle.rc_step_laws.proofs.InEvents.{deposed-refuse-clients, deposed-acknowledge-nothing, deposed-stay}
use Rattle.rc_step_laws.proofs.sends.deposed_masters_only_refuse.Goals as goal

pub returns-clause-refuse : goal.returns-clause-refuse
returns-clause-refuse c = deposed-refuse-clients

pub returns-clause-stay : goal.returns-clause-stay
returns-clause-stay c = deposed-stay

pub returns-clause-acknowledge : goal.returns-clause-acknowledge
returns-clause-acknowledge c = deposed-acknowledge-nothing
