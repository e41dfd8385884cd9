use Rattle.rc_keeping.proofs.InOrder.{not-first}
use Rattle.rc_keeping.proofs.building.put_first.Goals as goal

pub returns-then-not-goes_first-clause-err : goal.returns-then-not-goes_first-clause-err
returns-then-not-goes_first-clause-err g c = λ _ sorted. not-first g.K.Ord.cmp c.args.key c.args.map.now.entries (cc) sorted
