use Rattle.std.proofs.Common.{◌≡◌, ◌<◌, ◌≤◌, ℕ, true}
use Rattle.rc_config.specs.Lists.{segment_at}
use Rattle.rc_headroll.specs.Soundness.{entries_to}
use Rattle.rc_headroll.proofs.log.LogHead.shut_front.Given as goal

-- the segments so far are shut, and have so many entries
abbrev pub invariant-loop-place : goal.invariant-loop-place
invariant-loop-place l = record {
  shut : (seg : ℕ) → 0 < seg → seg ≤ l.place → (segment_at l.self.segments seg).shut ≡ true;
  entries : l.entries ≡ entries_to (segment_at l.self.segments) l.place;
}
