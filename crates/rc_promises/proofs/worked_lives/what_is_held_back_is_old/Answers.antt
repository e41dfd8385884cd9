use Rattle.rc_promises.proofs.Run.{holding-may-happen, it-is-held-back}
use Rattle.rc_promises.proofs.worked_lives.what_is_held_back_is_old.Goals as goal

pub returns : goal.returns
returns c = record { may = holding-may-happen; held = it-is-held-back }
