use Rattle.std.proofs.Common.{◌≡◌, ℕ, ◌-◌, take, nat_eq}
use Rattle.std.specs.Option.{IsSome}
use Rattle.indexmap.specs.IndexMap.{get}
use Rattle.rc_model.specs.Ownership.{count_under}
use Rattle.rc_ownership.specs.Counts.{count_in}
use Rattle.rc_ownership.specs.Marks.{marked}
use Rattle.rc_ownership.proofs.counts.count_down.Given as goal

abbrev pub invariant-loop-place : goal.invariant-loop-place
invariant-loop-place l = record {
  counted : (term : ℕ) → count_in l.counts term ≡ count_in l.initial.counts term -
      count_under term (marked (take l.place l.marks) (take l.place l.entries));
  kept : (term : ℕ) → IsSome (get nat_eq l.initial.counts term) → IsSome (get nat_eq l.counts term);
}
