use Rattle.std.proofs.Common.{length, sym}
use Rattle.rc_config.specs.Lists.{segment_at}
use Rattle.rc_master.proofs.OpenSegments.{none-open}
use Rattle.rc_master.proofs.looks.fewest_members.Goals as goal

pub returns-in-None : goal.returns-in-None
returns-in-None c =
    sym (none-open (segment_at c.args.log.now.segments) (length c.args.log.now.segments) (sym c.in-None.ensures.first))
