use Rattle.rc_history.proofs.Apart.{apart-history, history-comes}
use Rattle.rc_history.proofs.laws.steps_apart_are_a_history.Goals as goal

pub returns-clause-possible : goal.returns-clause-possible
returns-clause-possible c setup steps apart = (apart-history apart).possible

pub returns-clause-nodes : goal.returns-clause-nodes
returns-clause-nodes c setup steps apart = (apart-history apart).nodes

pub returns-clause-sent : goal.returns-clause-sent
returns-clause-sent c setup steps apart = (apart-history apart).sent

pub returns-clause-taken : goal.returns-clause-taken
returns-clause-taken c setup steps apart = (apart-history apart).taken

pub returns-clause-every : goal.returns-clause-every
returns-clause-every c = history-comes
