use Rattle.std.proofs.Common.{◌≡◌, ℕ, true, ◌||◌}
use Rattle.rc_model.specs.Model.{ServerId, has_crashed}
use Rattle.rc_headroll.specs.Watching.{has_number, is_under}
use Rattle.rc_headroll.proofs.filing.wake_crashed.Given as goal

-- what is filed under crashed ids was added, or is filed under one that is left
abbrev pub invariant-loop-id : goal.invariant-loop-id
invariant-loop-id l = record {
  others : (seg : ℕ) → has_number l.fn.awake seg ≡ true → has_number l.awake seg ≡ true;
  woken : (id : ServerId) (seg : ℕ) → has_crashed l.servers id ≡ true → is_under l.filed.entries id seg ≡ true →
      (has_number l.awake seg || is_under l.id-iterator id seg) ≡ true;
}
