use Rattle.std.proofs.Common.{◌≡◌, length}
use Rattle.rc_ownership.proofs.notes.Notes.restore.Given as goal

abbrev pub invariant-loop-self : goal.invariant-loop-self
invariant-loop-self l = record {
  durable : l.self.durable ≡ l.fn.self.durable_before;
  noted_before : l.self.noted_before ≡ l.fn.self.noted_before;
  replayed_before : l.self.replayed_before ≡ l.fn.self.replayed_before;
  durable_before : l.self.durable_before ≡ l.fn.self.durable_before;
}

abbrev pub decreases-loop-self : goal.decreases-loop-self
decreases-loop-self l = length l.self.noted
