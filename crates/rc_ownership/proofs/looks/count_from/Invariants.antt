use Rattle.std.proofs.Common.{◌≡◌, ◌≤◌, ◌+◌, ◌-◌, ◌^◌, length, drop, sum_by}
use Rattle.rc_types.specs.Counts.{within_64_bits}
use Rattle.rc_ownership.proofs.looks.count_from.Given as goal

-- those of the rows so far, with those of the rows that are left
abbrev pub invariant-loop-row : goal.invariant-loop-row
invariant-loop-row l = record {
  fits : l.count ≤ 2 ^ 64 - 1;
  all : within_64_bits (l.count + sum_by length (drop l.row l.rows.items)) ≡ within_64_bits (sum_by length (drop l.first l.rows.items));
}
