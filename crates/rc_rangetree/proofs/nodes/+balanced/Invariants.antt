use Rattle.std.proofs.Common.{length}
use Rattle.rc_rangetree.proofs.nodes.+balanced.Given as goal

abbrev pub decreases-balanced : goal.decreases-balanced
decreases-balanced g l = length l.tablets.now
