-- What a step can change of a segment.
use Rattle.std.specs.Prelude.{length, take}
use Rattle.rc_model.specs.Segment.{Segment}
use Rattle.rc_config.specs.declared.state.SegmentState.{SegmentState}

-- what a step can change of a segment
abbrev pub state_of : Segment → SegmentState
state_of segment = record {
  len = length segment.entries;
  config = segment.config;
  commit_sent = segment.commit_sent;
  closes_sent = segment.closes_sent;
  shut = segment.shut;
  freed = segment.freed;
}

-- the segment as it was: entries were added at most
abbrev pub with_state : SegmentState → Segment → Segment
with_state state segment = record {
  digest = segment.digest;
  entries = take state.len segment.entries;
  config = state.config;
  commit_sent = state.commit_sent;
  closes_sent = state.closes_sent;
  shut = state.shut;
  freed = state.freed;
}
