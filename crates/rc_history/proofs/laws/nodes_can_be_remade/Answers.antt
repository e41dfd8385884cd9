use Rattle.rc_history.proofs.Remade.{hosts-remade, coordinator-remade}
use Rattle.rc_history.proofs.laws.nodes_can_be_remade.Goals as goal

pub returns-clause-hosts : goal.returns-clause-hosts
returns-clause-hosts c = hosts-remade

pub returns-clause-coordinator : goal.returns-clause-coordinator
returns-clause-coordinator c = coordinator-remade
