use Rattle.std.specs.Ordering.{nat_cmp}
use Rattle.rc_keeping.proofs.InOrder.{last-ascends}
use Rattle.rc_keeping.proofs.building.freed_of.Goals as goal

pub returns-in-Err-clause-err : goal.returns-in-Err-clause-err
returns-in-Err-clause-err c = λ malformed sorted.
    c.in-Err.ensures.err malformed
    (last-ascends nat_cmp c.loop-seg.segs.items c.pop.new.self.items c.in-Some.seg c.loop-seg.set.keys c.args.segs.items
    c.in-Some.ensures.items c.loop-seg.invariant sorted)
