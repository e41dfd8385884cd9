use Rattle.rc_promises.proofs.Ordering.{no-run-breaks-the-order}
use Rattle.rc_promises.proofs.ordered_runs.no_run_breaks_the_order.Goals as goal

pub returns : goal.returns
returns c = no-run-breaks-the-order
