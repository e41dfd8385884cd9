use Rattle.std.proofs.Common.{◌-◌, ◌<◌, length, get_or, arith}
use Rattle.std.proofs.lemmas.List.{get_or_default}
use Rattle.rc_model.specs.Segment.{Segment}
use Rattle.rc_config.specs.Lists.{segment_at}
use Rattle.rc_headroll.proofs.GoingBack.{put_back-is, one_back-zero}
use Rattle.rc_headroll.proofs.before.put_one_back.Goals as goal

pub returns-then-seg-gt0 : goal.returns-then-seg-gt0
returns-then-seg-gt0 c =
    let inside : c.args.seg - 1 < length c.args.segments.now = omega arith in
    let was : Segment = get_or c.args.segments.now (c.args.seg - 1) c.index-segments-seg.result in
    put_back-is c.args.segments.now c.args.seg (c.args.seg - 1) c.args.state.now c.put_back.new.self was
    (omega arith) inside (get_or_default c.args.segments.now (c.args.seg - 1) c.index-segments-seg.result was inside) c.put_back.ensures

pub returns-else-seg-gt0 : goal.returns-else-seg-gt0
returns-else-seg-gt0 c = one_back-zero (segment_at c.args.segments.now) c.args.seg _ (omega arith)
