use Rattle.rc_step_laws.proofs.KeptWorlds.{nothing-is-dropped, durable-is-held}
use Rattle.rc_step_laws.proofs.kept.nothing_is_dropped_where_nothing_is_freed.Goals as goal

pub returns-clause-acknowledged : goal.returns-clause-acknowledged
returns-clause-acknowledged c = nothing-is-dropped

pub returns-clause-durable : goal.returns-clause-durable
returns-clause-durable c = durable-is-held
