use Rattle.rc_step_laws.proofs.SafePlaces.{acknowledged-is-durable, acknowledged-is-recorded}
use Rattle.rc_step_laws.proofs.durable.acknowledged_means_durable.Goals as goal

pub returns-clause-safe : goal.returns-clause-safe
returns-clause-safe c = acknowledged-is-durable

pub returns-clause-holds : goal.returns-clause-holds
returns-clause-holds c = acknowledged-is-recorded
