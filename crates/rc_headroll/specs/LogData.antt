-- What the code keeps of a log: its segments stand in a list, of which the first is segment 1.
use Rattle.std.specs.Prelude.{ℕ, List, length}
use Rattle.rc_types.specs.declared.ids.ServerId.{ServerId}
use Rattle.rc_types.specs.declared.kept.Phase.{Phase}
use Rattle.rc_model.specs.Segment.{Segment}
use Rattle.rc_model.specs.Log.{Log}
use Rattle.rc_config.specs.Lists.{segment_at}
use Rattle.rc_headroll.specs.declared.durable.Counted.{Counted}
use Rattle.rc_headroll.specs.Before.{Mark, segments_before}
use Rattle.rc_headroll.specs.Watching.{Watched}

pub record LogData : Type 0 where
  pub own : ServerId
  pub factor : ℕ
  pub size : ℕ
  pub segments : List Segment
  pub phase : Phase
  pub durable : ℕ
  -- how many places have become durable, whether or not they were gone over
  pub counted : Counted
  -- where the log goes back to
  pub mark : Mark
  -- which segments the timer goes over
  pub watch : Watched

-- the log of the definitions
abbrev pub log_of : LogData → Log
log_of kept = record {
  own = kept.own;
  factor = kept.factor;
  size = kept.size;
  head = length kept.segments;
  segments = segment_at kept.segments;
  phase = kept.phase;
  durable = kept.durable;
}

-- the log that it goes back to
abbrev pub before_of : LogData → Log
before_of kept = record {
  own = kept.own;
  factor = kept.factor;
  size = kept.size;
  head = kept.mark.head;
  segments = segments_before kept.mark (segment_at kept.segments);
  phase = kept.mark.phase;
  durable = kept.mark.durable;
}
