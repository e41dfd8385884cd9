use Rattle.rc_keeping.proofs.InOrder.{not-lowest}
use Rattle.rc_keeping.proofs.building.put_lowest.Goals as goal

pub returns-then-not-goes_lowest-clause-err : goal.returns-then-not-goes_lowest-clause-err
returns-then-not-goes_lowest-clause-err c = λ _ sorted. not-lowest c.args.seg c.args.set.now.keys (cc) sorted
