use Rattle.std.proofs.Common.{◌≡◌, true, sym, ap, ◌∙◌}
use Rattle.rc_model.specs.Log.{Log, has_segment}
use Rattle.rc_headroll.specs.LogData.{log_of}
use Rattle.rc_config.specs.Resting.{wants_nothing}
use Rattle.rc_headroll.specs.contracts.log.LogHead.{the_view}
use Rattle.rc_config.proofs.SegmentTables.{segment_at-read}
use Rattle.rc_headroll.proofs.LogChanges.{seg_place}
use Rattle.rc_headroll.proofs.log.LogHead.let_go.Goals as goal

pub pass_over-requires-clause-nothing : goal.pass_over-requires-clause-nothing
pass_over-requires-clause-nothing c =
    let has : true ≡ has_segment (log_of c.args.self.now) c.args.seg = sym c.requires.known in
    let at = seg_place (the_view c.self.inside) c.args.seg c.from.result (rw (← c.self.view_is) at has) c.from.ensures in
    let read = segment_at-read c.self.inside.segments.items c.args.seg _ c.index.result.now at.0 at.1 c.index.ensures in
    let nothing : true ≡ wants_nothing c.index.result.now = c.if-not-wants_nothing.ensures in
    let then_ : wants_nothing ((log_of c.args.self.now).segments c.args.seg) ≡ true =
    rw (← c.self.view_is) (ap wants_nothing (sym read) ∙ sym nothing) in
    ap (λ (log : Log). wants_nothing (log.segments c.args.seg)) c.in_ok-file.ensures.log ∙ then_
