use Rattle.std.proofs.Common.{◌≡◌, ◌≤◌, length, drop}
use Rattle.rc_ownership.specs.Replay.{waiting_from, NoneIsEmpty, IsPlace}
use Rattle.rc_ownership.proofs.replay.Replay.begin.Given as goal

abbrev pub invariant-loop-self : goal.invariant-loop-self
invariant-loop-self l = record {
  entries : waiting_from l.self-inside.place (drop l.self-inside.row l.self-inside.rows.items) ≡ l.fn.self.entries;
  none_empty : NoneIsEmpty l.self-inside.rows.items;
  within : l.self-inside.row ≤ length l.self-inside.rows.items;
  place : IsPlace l.self-inside.place (drop l.self-inside.row l.self-inside.rows.items);
}

abbrev pub decreases-loop-self : goal.decreases-loop-self
decreases-loop-self l = l.self-inside.row
