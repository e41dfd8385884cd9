use Rattle.std.proofs.Common.{◌≡◌, ◌+◌, ◌++◌, take, map}
use Rattle.rc_model.specs.Log.{places_in}
use Rattle.rc_headroll.specs.Places.{log_place}
use Rattle.rc_headroll.proofs.durable.add_places.Given as goal

-- the places so far are there
abbrev pub invariant-loop-entry : goal.invariant-loop-entry
invariant-loop-entry l = record {
  at : l.at ≡ l.offset + l.entry-index;
  added : map log_place l.places.items ≡ map log_place l.fn.places.items ++ places_in l.seg l.offset (take l.entry-index l.entries);
}
