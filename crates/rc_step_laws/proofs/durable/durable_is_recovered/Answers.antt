use Rattle.rc_step_laws.proofs.SafePlaces.{stored-is-safe, safe-stays-safe, durable-is-recovered}
use Rattle.rc_step_laws.proofs.durable.durable_is_recovered.Goals as goal

pub returns-clause-safe : goal.returns-clause-safe
returns-clause-safe c = stored-is-safe

pub returns-clause-stays : goal.returns-clause-stays
returns-clause-stays c = safe-stays-safe

pub returns-clause-recovered : goal.returns-clause-recovered
returns-clause-recovered c = durable-is-recovered
