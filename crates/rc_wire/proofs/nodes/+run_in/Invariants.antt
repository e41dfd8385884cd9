use Rattle.std.proofs.Common.{length}
use Rattle.rc_wire.proofs.nodes.+run_in.Given as goal

-- the seats that have no thread yet
abbrev pub decreases-run_in : goal.decreases-run_in
decreases-run_in g l = length l.seats.now.items
