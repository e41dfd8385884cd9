use Rattle.rc_history.proofs.Telling.{has-history, steps-come-last, journals-make-nodes}
use Rattle.rc_history.proofs.Since.{stays-left}
use Rattle.rc_history.proofs.lives.lives_are_a_history.Goals as goal

pub returns-clause-history : goal.returns-clause-history
returns-clause-history c = has-history

pub returns-clause-stays : goal.returns-clause-stays
returns-clause-stays c = stays-left

pub returns-clause-last : goal.returns-clause-last
returns-clause-last c = steps-come-last

pub returns-clause-journals : goal.returns-clause-journals
returns-clause-journals c = journals-make-nodes
