use Rattle.rc_headroll.proofs.OthersLemmas.{popped-once}
use Rattle.rc_headroll.proofs.others.Others.pop.Goals as goal

pub returns-clause-once : goal.returns-clause-once
returns-clause-once c = popped-once c.self.inside.places.items c.self.inside.kept.items c.pop.new.self.items c.pop.result
    c.self.invariant.0 c.pop.ensures.items
