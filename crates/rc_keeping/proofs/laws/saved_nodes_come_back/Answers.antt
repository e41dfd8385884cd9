use Rattle.rc_keeping.proofs.ComingBack.{saved-hosts-come-back}
use Rattle.rc_keeping.proofs.laws.saved_nodes_come_back.Goals as goal

pub returns : goal.returns
returns c = saved-hosts-come-back
