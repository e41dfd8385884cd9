use Rattle.rc_clients.specs.Evidence.{IsWrittenAt}
use Rattle.rc_clients.proofs.TimeLemmas.{always_more}
use Rattle.rc_clients.proofs.unwritten.unwritten_read.Goals as goal

pub loop-moment-preserved : goal.loop-moment-preserved
loop-moment-preserved c = always_more (IsWrittenAt c.args.history.now) c.loop-moment.invariant c.in_default.ensures
