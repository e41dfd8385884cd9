use Rattle.rc_step_laws.proofs.Growing.{one-entry, logs-grow, shut-is-final, shut-is-safe, replicas-are-beginnings, recovered-is-made}
use Rattle.rc_step_laws.proofs.logs.logs_only_grow.Goals as goal

pub returns-clause-one_entry : goal.returns-clause-one_entry
returns-clause-one_entry c = one-entry

pub returns-clause-grow : goal.returns-clause-grow
returns-clause-grow c = logs-grow

pub returns-clause-shut : goal.returns-clause-shut
returns-clause-shut c = shut-is-final

pub returns-clause-safe : goal.returns-clause-safe
returns-clause-safe c = shut-is-safe

pub returns-clause-replicas : goal.returns-clause-replicas
returns-clause-replicas c = replicas-are-beginnings

pub returns-clause-recovered : goal.returns-clause-recovered
returns-clause-recovered c = recovered-is-made
