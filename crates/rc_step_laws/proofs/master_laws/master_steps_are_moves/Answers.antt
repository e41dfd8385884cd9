-- Each clause is a lemma of `Steps`.
use Rattle.rc_step_laws.proofs.MasterSteps.{master_takes_keeps, master_ticks_keeps, new_master_is_good}
use Rattle.rc_step_laws.proofs.master_laws.master_steps_are_moves.Goals as goal

pub returns-clause-takes : goal.returns-clause-takes
returns-clause-takes c = master_takes_keeps

pub returns-clause-ticks : goal.returns-clause-ticks
returns-clause-ticks c = master_ticks_keeps

pub returns-clause-start : goal.returns-clause-start
returns-clause-start c = new_master_is_good
