use Rattle.std.proofs.Common.{◌≡◌, true}
use Rattle.rc_model.specs.Log.{has_segment}
use Rattle.rc_headroll.specs.LogData.{log_of}
use Rattle.rc_headroll.specs.contracts.log.LogHead.{the_view}
use Rattle.rc_headroll.proofs.LogChanges.{segment-read}
use Rattle.rc_headroll.proofs.log.LogHead.segment.Goals as goal

pub returns : goal.returns
returns c =
    let has : true ≡ has_segment (log_of c.args.self.now) c.args.seg = c.if-not-has.ensures in
    rw (← c.self.view_is)
    (segment-read (the_view c.self.inside) c.args.seg c.from.result c.index.result.now (rw (← c.self.view_is) at has)
    c.from.ensures c.index.ensures)
