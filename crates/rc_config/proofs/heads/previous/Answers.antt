use Rattle.std.proofs.Common.{◌-◌, length, arith}
use Rattle.rc_config.proofs.SegmentTables.{segment_at-read}
use Rattle.rc_config.proofs.heads.previous.Goals as goal

pub returns : goal.returns
returns c = segment_at-read c.args.segments.now (length c.args.segments.now - 1) (length c.args.segments.now - 2) _
    (omega arith) (omega arith) c.index-segments-segments.is
