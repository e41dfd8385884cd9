-- Segments of a log in the list that the code keeps.
use Rattle.std.proofs.Common.{◌≡◌, ℕ, ◌+◌, ◌<◌, ◌≤◌, true, ltb, leb, [], length, set, refl, ap}
use Rattle.std.proofs.lemmas.Bool.{and_parts, and_from, ltb-true, leb-true, lt-ltb, le-leb}
use Rattle.std.proofs.lemmas.List.{length-set}
use Rattle.rc_model.specs.Model.{put, Segment, ServerId, Opening, Log, new_log, with_segment, has_segment}
use Rattle.rc_config.specs.Lists.{segment_at}
use Rattle.rc_config.proofs.SegmentTables.{segment_at-nil, segment_at-set}
use Rattle.rc_headroll.specs.declared.durable.Counted.{Counted}
use Rattle.rc_headroll.specs.Before.{first_mark}
use Rattle.rc_headroll.specs.Watching.{Watched}
use Rattle.rc_headroll.specs.LogData.{LogData, log_of}

pub log_of-set : (kept : LogData) (place : ℕ) (x : Segment) (seg : ℕ) → seg ≡ place + 1 → place < length kept.segments →
    log_of (record kept { segments = set kept.segments place x }) ≡ with_segment seg x (log_of kept)
log_of-set kept place x seg e inside =
    let head : length (set kept.segments place x) ≡ length kept.segments = length-set kept.segments place x in
    let table : segment_at (set kept.segments place x) ≡ put (segment_at kept.segments) seg x =
    segment_at-set kept.segments place x seg e inside in
    rw (head, table) refl

-- a log with no segment is a new one
pub log_of-nil : (own : ServerId) (factor size : ℕ) (counted : Counted) (watch : Watched) →
    log_of (record {
      own = own;
      factor = factor;
      size = size;
      segments = [];
      phase = Opening;
      durable = 0;
      counted = counted;
      mark = first_mark;
      watch = watch;
    }) ≡ new_log own factor size
log_of-nil own factor size counted watch = rw segment_at-nil refl

-- what is behind a model, at a segment
pub data-segments : (a b : LogData) → a ≡ b → a.segments ≡ b.segments
data-segments a b e = ap (λ (kept : LogData). kept.segments) e

-- a segment that the log has
pub has-parts : (log : Log) (seg : ℕ) → has_segment log seg ≡ true → (0 < seg) × (seg ≤ log.head)
has-parts log seg has =
    let parts : (ltb 0 seg ≡ true) × (leb seg log.head ≡ true) = and_parts (ltb 0 seg) (leb seg log.head) has in
    (ltb-true 0 seg parts.0, leb-true seg log.head parts.1)

pub has-from : (log : Log) (seg : ℕ) → 0 < seg → seg ≤ log.head → has_segment log seg ≡ true
has-from log seg above within = and_from (ltb 0 seg) (leb seg log.head) (lt-ltb 0 seg above) (le-leb seg log.head within)
