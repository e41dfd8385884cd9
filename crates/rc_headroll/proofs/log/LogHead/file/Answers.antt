use Rattle.std.proofs.Common.{◌≡◌, true, sym, ap, ◌∙◌}
use Rattle.std.proofs.lemmas.Result.{IfOk-weaker}
use Rattle.rc_model.specs.Model.{has_segment, Segment}
use Rattle.rc_config.specs.Lists.{segment_at}
use Rattle.rc_headroll.specs.LogData.{log_of}
use Rattle.rc_headroll.specs.contracts.log.LogHead.{the_view}
use Rattle.rc_config.proofs.SegmentTables.{segment_at-read}
use Rattle.rc_headroll.proofs.LogChanges.{seg_place}
use Rattle.rc_headroll.proofs.WatchLemmas.{IsMore, sound-watch, watched-woken, on-file-freed, on-file-found}
use Rattle.rc_headroll.proofs.log.LogHead.file.Goals as goal

pub returns-then-is_freed-clause-filed : goal.returns-then-is_freed-clause-filed
returns-then-is_freed-clause-filed c =
    let has : true ≡ has_segment (log_of c.args.self.now) c.args.seg = sym c.requires in
    let at = seg_place (the_view c.self.inside) c.args.seg c.from.result (rw (← c.self.view_is) at has) c.from.ensures in
    let read = segment_at-read c.self.inside.segments.items c.args.seg _ c.index-segment.result.now at.0 at.1 c.index-segment.ensures in
    let freed : c.index-segment.result.now.freed ≡ true = sym c.is_freed.ensures ∙ c.if-is_freed.true in
    rw (← c.self.view_is)
    (λ is. on-file-freed c.self.inside.own c.self.inside.watch c.args.seg (segment_at c.self.inside.segments.items c.args.seg)
    (ap (λ (s : Segment). s.freed) (sym read) ∙ freed))

pub invariant_of-self : goal.invariant_of-self
invariant_of-self c =
    let more : IsMore c.self.inside.watch c.file.new.self = record {
      awake = λ seg awake. rw c.file.ensures.awake awake;
      filed = λ id seg filed asleep. c.file.ensures.others id seg filed;
      stuck = λ seg stuck asleep. (c.file.ensures.stuck seg stuck, c.file.ensures.servers);
    } in (
      sound-watch (the_view c.self.inside) c.self.inside.passed c.self.inside.passed_entries c.file.new.self c.self.invariant.0,
      watched-woken (the_view c.self.inside) c.file.new.self c.self.invariant.1 more,
      c.self.invariant.2,
      c.self.invariant.3,
      c.self.invariant.4,
    )

pub returns-clause-filed : goal.returns-clause-filed
returns-clause-filed c =
    let has : true ≡ has_segment (log_of c.args.self.now) c.args.seg = sym c.requires in
    let at = seg_place (the_view c.self.inside) c.args.seg c.from.result (rw (← c.self.view_is) at has) c.from.ensures in
    let read = segment_at-read c.self.inside.segments.items c.args.seg _ c.index-segment.result.now at.0 at.1 c.index-segment.ensures in
    IfOk-weaker c.file.result _ _
    (λ done found is. on-file-found c.self.inside.own c.file.new.self c.args.seg
    (segment_at c.self.inside.segments.items c.args.seg) c.config.result.now
    (c.config.ensures ∙ ap (λ (s : Segment). s.config) read) (found is))
    c.file.ensures.filed
