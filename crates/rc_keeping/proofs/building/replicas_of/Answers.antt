use Rattle.std.specs.Ordering.{nat_cmp}
use Rattle.rc_keeping.proofs.InOrder.{last-key-ascends}
use Rattle.rc_keeping.proofs.building.replicas_of.Goals as goal

pub returns-in-Err-clause-err : goal.returns-in-Err-clause-err
returns-in-Err-clause-err c = λ malformed sorted.
    c.in-Err.ensures.err malformed
    (last-key-ascends nat_cmp c.loop-piece.pieces.items c.pop.new.self.items c.in-Some.piece c.into_pair-seg.result
    c.loop-piece.map.entries c.args.pieces.items c.in-Some.ensures.items c.into_pair-seg.ensures c.loop-piece.invariant sorted)
