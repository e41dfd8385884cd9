use Rattle.std.proofs.Common.{◌≡◌, map}
use Rattle.rc_model.specs.Ownership.{under_term, entries_that_came}
use Rattle.rc_ownership.specs.Replay.{all_waiting, NoneIsEmpty}
use Rattle.rc_ownership.proofs.replay.joined_rows.Given as goal

abbrev pub invariant-loop-row : goal.invariant-loop-row
invariant-loop-row l = record {
  entries : all_waiting l.joined.items ≡ map (under_term l.term) (entries_that_came (map (λ row. row.now) l.yielded));
  none_empty : NoneIsEmpty l.joined.items;
}
