use Rattle.std.proofs.Common.{◌≡◌, ◌++◌, map, length}
use Rattle.rc_model.specs.Ownership.{under_term}
use Rattle.rc_ownership.specs.Replay.{all_waiting, NoneIsEmpty}
use Rattle.rc_ownership.proofs.replay.push_pieces.Given as goal

abbrev pub invariant-loop-piece : goal.invariant-loop-piece
invariant-loop-piece l = record {
  entries : all_waiting l.joined.items ++ map (under_term l.term) (all_waiting l.rest)
      ≡ all_waiting l.fn.joined.items ++ map (under_term l.term) (all_waiting l.pieces);
  none_empty : NoneIsEmpty l.fn.joined.items → NoneIsEmpty l.joined.items;
}

abbrev pub decreases-loop-piece : goal.decreases-loop-piece
decreases-loop-piece l = length l.rest
