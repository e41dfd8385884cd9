use Rattle.std.proofs.Common.{length}
use Rattle.rc_rangetree.proofs.ranges.+covers_from.Given as goal

abbrev pub decreases-covers_from : goal.decreases-covers_from
decreases-covers_from l = length l.tablets.now
