use Rattle.rc_keeping.proofs.InOrder.{last-is-in-order}
use Rattle.rc_keeping.proofs.building.table_of.Goals as goal

pub returns-in-Err-clause-err : goal.returns-in-Err-clause-err
returns-in-Err-clause-err c = λ malformed order.
    let both = last-is-in-order c.loop-part.parts.items c.pop.new.self.items c.in-Some.part c.loop-part.map.entries c.args.parts.items
    c.in-Some.ensures.items c.loop-part.invariant order in
    c.in-Err.ensures.err malformed both.0 both.1
