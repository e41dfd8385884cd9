use Rattle.rc_step_laws.proofs.Crashing.{each-grant-goes-to-the-up, grants-go-to-the-up, crashed-are-granted-no-more}
use Rattle.rc_step_laws.proofs.commits.commits_go_to_who_is_up.Goals as goal

pub returns-clause-up : goal.returns-clause-up
returns-clause-up c = grants-go-to-the-up

pub returns-clause-crashed : goal.returns-clause-crashed
returns-clause-crashed c = crashed-are-granted-no-more

pub returns-clause-each : goal.returns-clause-each
returns-clause-each c = each-grant-goes-to-the-up
