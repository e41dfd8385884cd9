use Rattle.std.proofs.Common.{◌≡◌, ◌<◌, length}
use Rattle.rc_keeping.specs.Spelling.{sum_from}
use Rattle.rc_keeping.proofs.records.sum_from.Given as goal

abbrev pub invariant-loop-eight : goal.invariant-loop-eight
invariant-loop-eight l = sum_from l.sum l.rest ≡ sum_from l.fn.from l.fn.bytes

abbrev pub decreases-loop-eight : goal.decreases-loop-eight
decreases-loop-eight l = length l.rest

abbrev pub invariant-loop-byte : goal.invariant-loop-byte
invariant-loop-byte l = (sum_from l.sum l.rest ≡ sum_from l.fn.from l.fn.bytes) × (length l.rest < 8)

abbrev pub decreases-loop-byte : goal.decreases-loop-byte
decreases-loop-byte l = length l.rest
