use Rattle.rc_model.proofs.Granting.{least-rises, least-covers, commit-refused}
use Rattle.rc_model.proofs.coordinators.commits_rise.Goals as goal

pub returns-clause-rise : goal.returns-clause-rise
returns-clause-rise c = least-rises

pub returns-clause-covered : goal.returns-clause-covered
returns-clause-covered c = least-covers

pub returns-clause-crashed : goal.returns-clause-crashed
returns-clause-crashed c = commit-refused
