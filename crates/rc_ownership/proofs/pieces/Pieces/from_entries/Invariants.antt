use Rattle.std.proofs.Common.{◌≡◌, ◌++◌, length}
use Rattle.rc_ownership.specs.Replay.{all_waiting}
use Rattle.rc_ownership.specs.Pieces.{NoneIsLong}
use Rattle.rc_ownership.proofs.pieces.Pieces.from_entries.Given as goal

abbrev pub invariant-loop-piece : goal.invariant-loop-piece
invariant-loop-piece l = record {
  entries : all_waiting l.others.items ++ l.rest ≡ l.initial.rest;
  none_long : NoneIsLong l.others.items;
}

abbrev pub decreases-loop-piece : goal.decreases-loop-piece
decreases-loop-piece l = length l.rest
