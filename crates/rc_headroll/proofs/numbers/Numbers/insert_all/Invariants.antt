use Rattle.std.proofs.Common.{◌≡◌, ℕ, true, ◌||◌}
use Rattle.rc_headroll.specs.Watching.{has_number}
use Rattle.rc_headroll.proofs.numbers.Numbers.insert_all.Given as goal

-- each of them was added, or is left
abbrev pub invariant-loop-seg : goal.invariant-loop-seg
invariant-loop-seg l = record {
  others : (other : ℕ) → has_number l.fn.self other ≡ true → has_number l.self other ≡ true;
  added : (other : ℕ) → has_number l.numbers other ≡ true → (has_number l.self other || has_number l.seg-iterator other) ≡ true;
}
