use Rattle.std.proofs.Common.{subst}
use Rattle.rc_model.proofs.Measures.{AllLower, Lowers, lowers, goes_on-settles, goes_on-marked}
use Rattle.rc_model.proofs.masters.follow_ups_end.Goals as goal

pub returns-clause-lower : goal.returns-clause-lower
returns-clause-lower c master next messages factor e =
    let less : Lowers master next = subst (AllLower master) e (lowers master factor) in less.lower

pub returns-clause-none : goal.returns-clause-none
returns-clause-none c = goes_on-settles

pub returns-clause-marked : goal.returns-clause-marked
returns-clause-marked c = goes_on-marked
