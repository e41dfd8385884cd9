use Rattle.std.proofs.Common.{◌≡◌, ◌≤◌, ◌+◌, ◌-◌, ◌^◌}
use Rattle.rc_types.specs.Counts.{within_64_bits}
use Rattle.rc_replica.specs.HeldSizes.{count_entries}
use Rattle.rc_replica.proofs.held.Held.count_entries.Given as goal

-- those so far, with those of the replicas that are left
abbrev pub invariant-loop-replica : goal.invariant-loop-replica
invariant-loop-replica l = record {
  fits : l.entries ≤ 2 ^ 64 - 1;
  all : within_64_bits (l.entries + count_entries l.replica-iterator) ≡ within_64_bits (count_entries l.self.replicas);
}
