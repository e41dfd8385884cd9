use Rattle.rc_model.proofs.Granting.{recovered-refused, stale-refused}
use Rattle.rc_model.proofs.coordinators.grants_are_current.Goals as goal

pub returns-clause-crashed : goal.returns-clause-crashed
returns-clause-crashed c = recovered-refused

pub returns-clause-stale : goal.returns-clause-stale
returns-clause-stale c = stale-refused
