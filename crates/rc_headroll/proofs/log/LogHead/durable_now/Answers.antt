use Rattle.std.proofs.Common.{◌≡◌, ◌+◌, ◌*◌, ◌<◌, ◌≤◌, ℕ, true, false, length, sym, ap, ◌∙◌, arith}
use Rattle.rc_model.specs.Model.{MAX_SEGMENT, durable_in}
use Rattle.rc_config.specs.Lists.{segment_at}
use Rattle.rc_headroll.specs.LogData.{log_of}
use Rattle.rc_headroll.specs.Soundness.{entries_to}
use Rattle.rc_headroll.specs.contracts.log.LogHead.{the_view}
use Rattle.rc_config.proofs.SegmentTables.{segment_at-read}
use Rattle.rc_headroll.proofs.LogTables.{data-segments}
use Rattle.rc_headroll.proofs.DurableLogs.{durable_now-open, sound_segment-read}
use Rattle.rc_headroll.proofs.log.LogHead.durable_now.Goals as goal

pub overflow_add-result : goal.overflow_add-result
overflow_add-result c =
    let p : ℕ = c.shut_front-front.result.segments in
    let known : p ≤ length c.args.self.now.segments = c.shut_front-front.ensures.known in
    let known' : p ≤ length c.self.inside.segments.items = rw (← c.self.view_is) at known in
    let below : p < length c.self.inside.segments.items =
    omega (arith, known', c.if-front-len.false, c.len.ensures, c.self.inside.segments.ok.0) in
    let fits : length c.index.result.now.entries ≤ c.self.inside.size =
    (sound_segment-read (the_view c.self.inside) c.self.inside.passed c.self.inside.passed_entries p c.index.result.now
    c.self.invariant.0.now below c.index.ensures).fits in
    let few : c.shut_front-front.result.entries ≤ MAX_SEGMENT * p = c.shut_front-front.ensures.few in
    omega (arith, few, fits, c.durable_len.ensures, c.self.invariant.0.now.size, c.self.invariant.0.now.few, below)

pub returns : goal.returns
returns c =
    let p : ℕ = c.shut_front-front.result.segments in
    let known : p ≤ length c.args.self.now.segments = c.shut_front-front.ensures.known in
    let known' : p ≤ length c.self.inside.segments.items = rw (← c.self.view_is) at known in
    let below : p < length c.self.inside.segments.items =
    omega (arith, known', c.if-front-len.false, c.len.ensures, c.self.inside.segments.ok.0) in
    let below' : p < length c.args.self.now.segments =
    rw (data-segments (the_view c.self.inside) c.args.self.now c.self.view_is) at below in
    let is : c.index.result.now ≡ segment_at c.self.inside.segments.items (p + 1) =
    segment_at-read c.self.inside.segments.items (p + 1) p c.index.result.now (omega arith) below c.index.ensures in
    let is' : c.index.result.now ≡ segment_at c.args.self.now.segments (p + 1) =
    rw (data-segments (the_view c.self.inside) c.args.self.now c.self.view_is) at is in
    let shut : (seg : ℕ) → 0 < seg → seg ≤ p → (segment_at c.args.self.now.segments seg).shut ≡ true = c.shut_front-front.ensures.shut in
    let ends : p < length c.args.self.now.segments → (segment_at c.args.self.now.segments (p + 1)).shut ≡ false =
    c.shut_front-front.ensures.ends in
    let entries : c.shut_front-front.result.entries ≡ entries_to (segment_at c.args.self.now.segments) p =
    c.shut_front-front.ensures.entries in
    ap (λ (n : ℕ). n + c.durable_len.result) entries
    ∙ ap (λ (n : ℕ). entries_to (segment_at c.args.self.now.segments) p + n) (c.durable_len.ensures ∙ ap durable_in is')
    ∙ sym (durable_now-open (log_of c.args.self.now) p below' shut (ends below'))
