use Rattle.rc_model.proofs.Storing.{freed-marked, freed-nothing}
use Rattle.rc_model.proofs.backups.freed_stay_freed.Goals as goal

pub returns-clause-marked : goal.returns-clause-marked
returns-clause-marked c = freed-marked

pub returns-clause-nothing : goal.returns-clause-nothing
returns-clause-nothing c = freed-nothing
