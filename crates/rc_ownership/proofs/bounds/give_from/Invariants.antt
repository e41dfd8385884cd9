use Rattle.std.proofs.Common.{◌≡◌, ℕ, ◌-◌, ◌≤◌, max}
use Rattle.std.specs.Ordering.{nat_cmp}
use Rattle.std.specs.BTreeMap.{get}
use Rattle.rc_ownership.specs.Bounds.{is_within}
use Rattle.rc_ownership.proofs.Saying.{given}
use Rattle.rc_ownership.proofs.bounds.give_from.Given as goal

abbrev pub invariant-loop-point : goal.invariant-loop-point
invariant-loop-point l = record {
  low : l.first ≤ l.point;
  high : l.point ≤ max l.first l.end;
  given_so_far : (other : ℕ) → get nat_cmp l.bounds other ≡ given l.term (is_within l.first l.point other)
      (get nat_cmp l.initial.bounds other);
}

abbrev pub decreases-loop-point : goal.decreases-loop-point
decreases-loop-point l = l.end - l.point
