use Rattle.std.proofs.Common.{◌≡◌, take, drop, map}
use Rattle.rc_model.specs.Log.{places_to}
use Rattle.rc_config.specs.Lists.{segment_at}
use Rattle.rc_headroll.specs.Soundness.{entries_to}
use Rattle.rc_headroll.specs.Places.{log_place}
use Rattle.rc_headroll.proofs.log.LogHead.newly_durable.Given as goal

-- those of the segments so far
abbrev pub invariant-loop-place : goal.invariant-loop-place
invariant-loop-place l = record {
  before : l.before ≡ entries_to (segment_at l.self.segments) l.place;
  added : map log_place l.places.items ≡ drop l.self.durable (take l.now (places_to (segment_at l.self.segments) l.place));
}
