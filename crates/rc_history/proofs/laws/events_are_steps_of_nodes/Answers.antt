use Rattle.rc_history.proofs.Steps.{node_takes}
use Rattle.rc_history.proofs.Names.{names-kept}
use Rattle.rc_history.proofs.laws.events_are_steps_of_nodes.Goals as goal

pub returns-clause-steps : goal.returns-clause-steps
returns-clause-steps c = node_takes

pub returns-clause-names : goal.returns-clause-names
returns-clause-names c = names-kept
