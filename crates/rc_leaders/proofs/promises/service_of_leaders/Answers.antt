use Rattle.rc_leaders.proofs.OfLeaders.{served-by-leaders, time-of-leaders}
use Rattle.rc_leaders.proofs.promises.service_of_leaders.Goals as goal

pub returns : goal.returns
returns c = record { served = served-by-leaders; time = time-of-leaders }
