use Rattle.rc_keeping.proofs.ComingBack.{hosts-come-back, coordinators-come-back, refusals-come-back}
use Rattle.rc_keeping.proofs.laws.nodes_come_back.Goals as goal

pub returns-clause-hosts : goal.returns-clause-hosts
returns-clause-hosts c = hosts-come-back

pub returns-clause-coordinator : goal.returns-clause-coordinator
returns-clause-coordinator c = coordinators-come-back

pub returns-clause-refusals : goal.returns-clause-refusals
returns-clause-refusals c = refusals-come-back
