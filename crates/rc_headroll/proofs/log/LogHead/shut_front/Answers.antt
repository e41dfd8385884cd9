use Rattle.std.proofs.Common.{◌≡◌, ◌+◌, ◌*◌, ◌<◌, ◌≤◌, ℕ, true, false, length, sym, ap, ◌∙◌, arith}
use Rattle.rc_model.specs.Model.{MAX_SEGMENT, Segment}
use Rattle.rc_config.specs.Lists.{segment_at}
use Rattle.rc_headroll.specs.LogData.{log_of}
use Rattle.rc_headroll.specs.Soundness.{entries_to}
use Rattle.rc_headroll.specs.contracts.log.LogHead.{the_view}
use Rattle.rc_config.proofs.SegmentTables.{segment_at-read}
use Rattle.rc_headroll.proofs.LogTables.{data-segments}
use Rattle.rc_headroll.proofs.DurableLogs.{entries_to-small, entries_to-more, shut-more, sound_segment-read}
use Rattle.rc_headroll.proofs.log.LogHead.shut_front.Goals as goal

pub returns-then-not-is_shut-clause-ends : goal.returns-then-not-is_shut-clause-ends
returns-then-not-is_shut-clause-ends c =
    let place : ℕ = c.loop-place.place in
    let below : place < length c.self.inside.segments.items =
    omega (arith, c.loop-place-test.true, c.len-place-end.ensures, c.self.inside.segments.ok.0) in
    let is : c.index-segment.result.now ≡ segment_at c.self.inside.segments.items (place + 1) =
    segment_at-read c.self.inside.segments.items (place + 1) place c.index-segment.result.now (omega arith) below c.index-segment.ensures in
    let stays : false ≡ c.index-segment.result.now.shut = c.if-not-is_shut.ensures in
    rw (← c.self.view_is) (λ (inside : place < length c.self.inside.segments.items). ap (λ (s : Segment). s.shut) (sym is) ∙ sym stays)

pub returns-then-not-is_shut-clause-few : goal.returns-then-not-is_shut-clause-few
returns-then-not-is_shut-clause-few c =
    let place : ℕ = c.loop-place.place in
    let below : place < length c.self.inside.segments.items =
    omega (arith, c.loop-place-test.true, c.len-place-end.ensures, c.self.inside.segments.ok.0) in
    let is : c.loop-place.entries ≡ entries_to (segment_at c.args.self.now.segments) place = c.loop-place.invariant.entries in
    let is' : c.loop-place.entries ≡ entries_to (segment_at c.self.inside.segments.items) place = rw (← c.self.view_is) at is in
    omega (
      arith,
      is',
      entries_to-small (log_of (the_view c.self.inside)) c.self.inside.passed
          c.self.inside.passed_entries place c.self.invariant.0.now (omega arith),
    )

pub overflow_add-entries : goal.overflow_add-entries
overflow_add-entries c =
    let place : ℕ = c.loop-place.place in
    let below : place < length c.self.inside.segments.items =
    omega (arith, c.loop-place-test.true, c.len-place-end.ensures, c.self.inside.segments.ok.0) in
    let is : c.loop-place.entries ≡ entries_to (segment_at c.args.self.now.segments) place = c.loop-place.invariant.entries in
    let is' : c.loop-place.entries ≡ entries_to (segment_at c.self.inside.segments.items) place = rw (← c.self.view_is) at is in
    let small : entries_to (segment_at c.self.inside.segments.items) place ≤ MAX_SEGMENT * place =
    entries_to-small (log_of (the_view c.self.inside)) c.self.inside.passed c.self.inside.passed_entries place
    c.self.invariant.0.now (omega arith) in
    let fits : length c.index-segment.result.now.entries ≤ c.self.inside.size =
    (sound_segment-read (the_view c.self.inside) c.self.inside.passed c.self.inside.passed_entries place
    c.index-segment.result.now c.self.invariant.0.now below c.index-segment.ensures).fits in
    omega (arith, is', small, fits, c.len-entries.ensures, c.self.invariant.0.now.size, c.self.invariant.0.now.few, below)

pub loop-place-preserved : goal.loop-place-preserved
loop-place-preserved c =
    let place : ℕ = c.loop-place.place in
    let below : place < length c.self.inside.segments.items =
    omega (arith, c.loop-place-test.true, c.len-place-end.ensures, c.self.inside.segments.ok.0) in
    let is : c.index-segment.result.now ≡ segment_at c.self.inside.segments.items (place + 1) =
    segment_at-read c.self.inside.segments.items (place + 1) place c.index-segment.result.now (omega arith) below c.index-segment.ensures in
    let is' : c.index-segment.result.now ≡ segment_at c.args.self.now.segments (place + 1) =
    rw (data-segments (the_view c.self.inside) c.args.self.now c.self.view_is) at is in
    let here : true ≡ c.index-segment.result.now.shut = c.if-not-is_shut.ensures in
    let shut : (seg : ℕ) → 0 < seg → seg ≤ place → (segment_at c.args.self.now.segments seg).shut ≡ true = c.loop-place.invariant.shut in
    let entries : c.loop-place.entries ≡ entries_to (segment_at c.args.self.now.segments) place = c.loop-place.invariant.entries in
    let len : c.len-entries.result ≡ length c.index-segment.result.now.entries = c.len-entries.ensures in
    let more = entries_to-more (segment_at c.args.self.now.segments) place in
    record {
      shut = shut-more (segment_at c.args.self.now.segments) place shut (ap (λ (s : Segment). s.shut) (sym is') ∙ sym here);
      entries = ap (λ (n : ℕ). n + c.len-entries.result) entries
          ∙ ap (λ (n : ℕ). entries_to (segment_at c.args.self.now.segments) place + n)
          (len ∙ ap (λ (s : Segment). length s.entries) is') ∙ sym more;
    }
