use Rattle.rc_model.proofs.Storing.{replicas-grow, closed-stays, closes-whole}
use Rattle.rc_model.proofs.backups.replicas_are_kept.Goals as goal

pub returns-clause-grow : goal.returns-clause-grow
returns-clause-grow c = replicas-grow

pub returns-clause-closed : goal.returns-clause-closed
returns-clause-closed c = closed-stays

pub returns-clause-whole : goal.returns-clause-whole
returns-clause-whole c = closes-whole
