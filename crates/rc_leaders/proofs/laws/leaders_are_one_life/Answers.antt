use Rattle.rc_leaders.proofs.Leading.{one-life, go-on}
use Rattle.rc_leaders.proofs.laws.leaders_are_one_life.Goals as goal

pub returns : goal.returns
returns c = record { life = one-life; later = go-on }
