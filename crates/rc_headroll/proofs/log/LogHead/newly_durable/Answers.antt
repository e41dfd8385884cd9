use Rattle.std.proofs.Common.{◌≡◌, ◌+◌, ◌-◌, ◌*◌, ◌<◌, ◌≤◌, ℕ, ◌++◌, Bool, List, map, min, length, take, drop, sym, ap, ◌∙◌, arith}
use Rattle.rc_model.specs.Model.{MAX_SEGMENT, Entry, Segment, LogPlace, places_in}
use Rattle.rc_config.specs.Lists.{segment_at}
use Rattle.rc_headroll.specs.LogData.{LogData, log_of}
use Rattle.rc_headroll.specs.Soundness.{entries_to}
use Rattle.rc_headroll.specs.Places.{log_place}
use Rattle.rc_headroll.specs.contracts.log.LogHead.{the_view}
use Rattle.rc_config.proofs.SegmentTables.{segment_at-read}
use Rattle.rc_headroll.proofs.LogTables.{data-segments}
use Rattle.rc_headroll.proofs.DurableLogs.{entries_to-small, entries_to-more, sound_segment-read}
use Rattle.rc_headroll.proofs.PlaceLemmas.{window-none, window-more}
use Rattle.rc_headroll.proofs.log.LogHead.newly_durable.Goals as goal

pub loop-place-init : goal.loop-place-init
loop-place-init c =
    let kept : entries_to (segment_at c.self.inside.segments.items) c.self.inside.passed ≤ c.self.inside.durable =
    omega (arith, c.self.invariant.0.now.passed_entries, c.self.invariant.0.now.passed_durable) in
    rw (← c.self.view_is) (record {
      before = c.self.invariant.0.now.passed_entries;
      added = ap (map log_place) c.new-places.ensures.items
          ∙ sym (window-none (segment_at c.self.inside.segments.items) c.self.inside.durable c.durable_now-now.result
          c.self.inside.passed kept);
    })

pub overflow_add-before : goal.overflow_add-before
overflow_add-before c =
    let place : ℕ = c.loop-place.place in
    let below : place < length c.self.inside.segments.items =
    omega (arith, c.loop-place-test.true, c.len-place-end.ensures, c.self.inside.segments.ok.0) in
    let is : c.loop-place.before ≡ entries_to (segment_at c.args.self.now.segments) place = c.loop-place.invariant.before in
    let is' : c.loop-place.before ≡ entries_to (segment_at c.self.inside.segments.items) place = rw (← c.self.view_is) at is in
    let small : entries_to (segment_at c.self.inside.segments.items) place ≤ MAX_SEGMENT * place =
    entries_to-small (log_of (the_view c.self.inside)) c.self.inside.passed c.self.inside.passed_entries place
    c.self.invariant.0.now (omega arith) in
    let fits : length c.index.result.now.entries ≤ c.self.inside.size =
    (sound_segment-read (the_view c.self.inside) c.self.inside.passed c.self.inside.passed_entries place
    c.index.result.now c.self.invariant.0.now below c.index.ensures).fits in
    let len : length c.entries-entries.result.now ≡ length c.index.result.now.entries = ap length c.entries-entries.ensures in
    omega (arith, is', small, fits, len, c.self.invariant.0.now.size, c.self.invariant.0.now.few, below)

pub loop-place-preserved : goal.loop-place-preserved
loop-place-preserved c =
    let place : ℕ = c.loop-place.place in
    let segments : List Segment = c.args.self.now.segments in
    let same : c.self.inside.segments.items ≡ segments = data-segments (the_view c.self.inside) c.args.self.now c.self.view_is in
    let below : place < length c.self.inside.segments.items =
    omega (arith, c.loop-place-test.true, c.len-place-end.ensures, c.self.inside.segments.ok.0) in
    let is : c.index.result.now ≡ segment_at c.self.inside.segments.items (place + 1) =
    segment_at-read c.self.inside.segments.items (place + 1) place c.index.result.now (omega arith) below c.index.ensures in
    let is' : c.index.result.now ≡ segment_at segments (place + 1) = rw same at is in
    let entries : c.entries-entries.result.now ≡ (segment_at segments (place + 1)).entries =
    c.entries-entries.ensures ∙ ap (λ (s : Segment). s.entries) is' in
    let before : c.loop-place.before ≡ entries_to (segment_at segments) place = c.loop-place.invariant.before in
    let durable : c.self.inside.durable ≡ c.args.self.now.durable = ap (λ (kept : LogData). kept.durable) c.self.view_is in
    let end : c.min-end.result ≡ min (c.durable_now-now.result - c.loop-place.before) (length c.entries-entries.result.now) =
    c.min-end.ensures ∙ ap (λ (n : ℕ). min n (length c.entries-entries.result.now)) c.saturating_sub.ensures in
    let start : c.min-start.result ≡ min (c.args.self.now.durable - c.loop-place.before) c.min-end.result =
    c.min-start.ensures ∙ ap (λ (n : ℕ). min n c.min-end.result) (c.saturating_sub-in-loop-place.ensures ∙
    ap (λ (n : ℕ). n - c.loop-place.before) durable) in
    record {
      before = ap (λ (n : ℕ). n + length c.entries-entries.result.now) before
          ∙ ap (λ (es : List (Entry × Bool)). entries_to (segment_at segments) place + length es) entries
          ∙ sym (entries_to-more (segment_at segments) place);
      added = c.in_ok-add_places.ensures
          ∙ ap (λ (places : List LogPlace). places ++ places_in (place + 1) c.min-start.result
          (take (c.min-end.result - c.min-start.result) (drop c.min-start.result c.entries-entries.result.now)))
          c.loop-place.invariant.added
          ∙ sym (window-more (segment_at segments) c.args.self.now.durable c.durable_now-now.result place
          c.loop-place.before c.min-start.result c.min-end.result
          c.entries-entries.result.now before entries end start);
    }
