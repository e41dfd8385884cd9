use Rattle.std.proofs.Common.{◌≡◌, true, length, sym, arith}
use Rattle.rc_model.specs.Log.{has_segment}
use Rattle.rc_config.specs.Lists.{segment_at}
use Rattle.rc_headroll.specs.LogData.{log_of}
use Rattle.rc_headroll.specs.contracts.log.LogHead.{the_view}
use Rattle.rc_config.proofs.SegmentTables.{segment_at-read}
use Rattle.rc_headroll.proofs.LogTables.{has-parts}
use Rattle.rc_headroll.proofs.LogChanges.{seg_place}
use Rattle.rc_headroll.proofs.KeptSegments.{keep-keeps, keep-kept, before_of-kept, sound-kept}
use Rattle.rc_headroll.proofs.WatchLemmas.{watched-kept}
use Rattle.rc_headroll.proofs.log.LogHead.keep.Goals as goal

pub invariant_of-self : goal.invariant_of-self
invariant_of-self c =
    let has : true ≡ has_segment (log_of c.args.self.now) c.args.seg = sym c.requires in
    let at = seg_place (the_view c.self.inside) c.args.seg c.from.result (rw (← c.self.view_is) at has) c.from.ensures in
    let read = segment_at-read c.self.inside.segments.items c.args.seg _ c.index.result.now at.0 at.1 c.index.ensures in (
      sound-kept (the_view c.self.inside) c.self.inside.passed c.self.inside.passed_entries c.keep.new.self.mark c.self.invariant.0
          (keep-keeps c.self.inside.before.mark c.keep.new.self.mark (length c.self.inside.segments.items)
          (segment_at c.self.inside.segments.items) c.args.seg c.index.result.now
          c.self.invariant.0.back read c.keep.ensures.mark),
      watched-kept (the_view c.self.inside) c.keep.new.self.mark c.self.invariant.1
          (before_of-kept (the_view c.self.inside) c.keep.new.self.mark
          (keep-keeps c.self.inside.before.mark c.keep.new.self.mark (length c.self.inside.segments.items)
          (segment_at c.self.inside.segments.items) c.args.seg c.index.result.now
          c.self.invariant.0.back read c.keep.ensures.mark)),
      omega (arith, c.self.invariant.2, c.keep.ensures.room),
      c.self.invariant.3,
      c.self.invariant.4,
    )

pub returns-clause-before : goal.returns-clause-before
returns-clause-before c =
    let has : true ≡ has_segment (log_of c.args.self.now) c.args.seg = sym c.requires in
    let at = seg_place (the_view c.self.inside) c.args.seg c.from.result (rw (← c.self.view_is) at has) c.from.ensures in
    let read = segment_at-read c.self.inside.segments.items c.args.seg _ c.index.result.now at.0 at.1 c.index.ensures in
    rw (← c.self.view_is)
    (before_of-kept (the_view c.self.inside) c.keep.new.self.mark
    (keep-keeps c.self.inside.before.mark c.keep.new.self.mark (length c.self.inside.segments.items)
    (segment_at c.self.inside.segments.items) c.args.seg c.index.result.now
    c.self.invariant.0.back read c.keep.ensures.mark))

pub returns-clause-kept : goal.returns-clause-kept
returns-clause-kept c =
    let has : true ≡ has_segment (log_of c.args.self.now) c.args.seg = sym c.requires in
    let has' = rw (← c.self.view_is) at has in
    let at = seg_place (the_view c.self.inside) c.args.seg c.from.result has' c.from.ensures in
    let read = segment_at-read c.self.inside.segments.items c.args.seg _ c.index.result.now at.0 at.1 c.index.ensures in
    let parts = has-parts (log_of (the_view c.self.inside)) c.args.seg (sym has') in
    keep-kept c.self.inside.before.mark c.keep.new.self.mark (length c.self.inside.segments.items)
    (segment_at c.self.inside.segments.items) c.args.seg c.index.result.now
    c.self.invariant.0.back read c.keep.ensures.mark parts.0
