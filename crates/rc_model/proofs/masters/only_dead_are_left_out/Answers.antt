use Rattle.rc_model.proofs.Digests.{rolls-leave, dead-outdated}
use Rattle.rc_model.proofs.masters.only_dead_are_left_out.Goals as goal

pub returns-clause-left_out : goal.returns-clause-left_out
returns-clause-left_out c = rolls-leave

pub returns-clause-dead : goal.returns-clause-dead
returns-clause-dead c = dead-outdated
