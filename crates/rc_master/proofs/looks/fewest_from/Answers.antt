use Rattle.std.proofs.Common.{length, sym}
use Rattle.rc_config.specs.Lists.{segment_at}
use Rattle.rc_master.proofs.OpenSegments.{below-first}
use Rattle.rc_master.proofs.looks.fewest_from.Goals as goal

pub loop-before-init : goal.loop-before-init
loop-before-init c =
    sym (below-first (segment_at c.args.log.now.segments) (length c.args.log.now.segments) c.args.first c.requires.first)
