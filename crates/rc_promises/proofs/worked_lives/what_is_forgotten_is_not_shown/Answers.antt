use Rattle.rc_promises.proofs.Run.{it-may-happen, it-forgets, it-shows-what-was-acknowledged}
use Rattle.rc_promises.proofs.worked_lives.what_is_forgotten_is_not_shown.Goals as goal

pub returns-clause-may : goal.returns-clause-may
returns-clause-may c = it-may-happen

pub returns-clause-forgotten : goal.returns-clause-forgotten
returns-clause-forgotten c = it-forgets

pub returns-clause-shown : goal.returns-clause-shown
returns-clause-shown c = it-shows-what-was-acknowledged
