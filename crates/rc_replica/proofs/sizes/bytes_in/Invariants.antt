use Rattle.std.proofs.Common.{◌≡◌, take}
use Rattle.rc_types.specs.Counts.{within_64_bits}
use Rattle.rc_replica.specs.Sizes.{value_bytes}
use Rattle.rc_replica.proofs.sizes.bytes_in.Given as goal

-- the bytes of the values so far
abbrev pub invariant-loop-entry : goal.invariant-loop-entry
invariant-loop-entry l = l.bytes ≡ within_64_bits (value_bytes (take l.entry-index l.entries))
