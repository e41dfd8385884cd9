use Rattle.rc_clients.specs.Evidence.{IsTimelyAt}
use Rattle.rc_clients.proofs.TimeLemmas.{always_more}
use Rattle.rc_clients.proofs.timely.late_operation.Goals as goal

pub loop-moment-preserved : goal.loop-moment-preserved
loop-moment-preserved c = always_more (IsTimelyAt c.args.history.now) c.loop-moment.invariant c.in_default.ensures
