use Rattle.std.proofs.Common.{◌≡◌, ◌++◌, vec_len}
use Rattle.rc_keeping.proofs.building.freed_of.Given as goal

abbrev pub invariant-loop-seg : goal.invariant-loop-seg
invariant-loop-seg l = l.segs.items ++ l.set.keys ≡ l.fn.segs.items

abbrev pub decreases-loop-seg : goal.decreases-loop-seg
decreases-loop-seg l = vec_len l.segs
