use Rattle.std.proofs.Common.{◌≡◌, ◌++◌, map, drop}
use Rattle.rc_model.specs.FollowUps.{write_oks}
use Rattle.rc_headroll.specs.Places.{log_place}
use Rattle.rc_master.specs.Beginnings.{IsBeginning}
use Rattle.rc_master.proofs.appending.add_oks_of.Given as goal

-- the answers so far, and then those of the places that are left
abbrev pub invariant-loop-place : goal.invariant-loop-place
invariant-loop-place l = record {
  rest :
      l.sent.items ++ write_oks l.own (map log_place (drop l.place-index l.places))
      ≡ l.initial.sent.items ++ write_oks l.own (map log_place l.places);
  begun : IsBeginning l.initial.sent.items l.sent.items;
}
