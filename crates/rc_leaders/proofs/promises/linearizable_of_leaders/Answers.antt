use Rattle.rc_leaders.proofs.OfLeaders.{linearizable-of-leaders, each-write-of-leaders, what-leaves-them-was-done}
use Rattle.rc_leaders.proofs.promises.linearizable_of_leaders.Goals as goal

pub returns : goal.returns
returns c = record { leaders = linearizable-of-leaders; writes = each-write-of-leaders; sent = what-leaves-them-was-done }
