use Rattle.std.proofs.Common.{◌≡◌, ◌≤◌, ◌+◌, ◌-◌, ◌^◌}
use Rattle.rc_types.specs.Counts.{within_64_bits}
use Rattle.rc_replica.specs.HeldSizes.{value_bytes}
use Rattle.rc_replica.proofs.held.Held.value_bytes.Given as goal

-- those so far, with those of the replicas that are left
abbrev pub invariant-loop-replica : goal.invariant-loop-replica
invariant-loop-replica l = record {
  fits : l.bytes ≤ 2 ^ 64 - 1;
  all : within_64_bits (l.bytes + value_bytes l.replica-iterator) ≡ within_64_bits (value_bytes l.self.replicas);
}
