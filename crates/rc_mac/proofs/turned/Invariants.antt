use Rattle.std.proofs.Common.{◌≡◌, ◌++◌, take, drop}
use Rattle.rc_mac.specs.Mac.{turned}
use Rattle.rc_mac.proofs.turned.Given as goal

-- those so far are turned, the others are as they were
abbrev pub invariant-loop-byte : goal.invariant-loop-byte
invariant-loop-byte l = l.byte-items ≡ turned l.bits (take l.byte-index l.fn.block) ++ drop l.byte-index l.fn.block
