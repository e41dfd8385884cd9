use Rattle.std.proofs.Common.{◌≡◌, ◌++◌, vec_len}
use Rattle.rc_keeping.proofs.building.replicas_of.Given as goal

abbrev pub invariant-loop-piece : goal.invariant-loop-piece
invariant-loop-piece l = l.pieces.items ++ l.map.entries ≡ l.fn.pieces.items

abbrev pub decreases-loop-piece : goal.decreases-loop-piece
decreases-loop-piece l = vec_len l.pieces
