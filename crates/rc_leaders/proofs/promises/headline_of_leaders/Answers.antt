use Rattle.rc_leaders.proofs.OfLeaders.{headline-of-leaders}
use Rattle.rc_leaders.proofs.promises.headline_of_leaders.Goals as goal

pub returns : goal.returns
returns c = headline-of-leaders
