use Rattle.std.proofs.Common.{◌≡◌, ◌++◌, vec_len}
use Rattle.rc_keeping.proofs.building.table_of.Given as goal

abbrev pub invariant-loop-part : goal.invariant-loop-part
invariant-loop-part l = l.parts.items ++ l.map.entries ≡ l.fn.parts.items

abbrev pub decreases-loop-part : goal.decreases-loop-part
decreases-loop-part l = vec_len l.parts
