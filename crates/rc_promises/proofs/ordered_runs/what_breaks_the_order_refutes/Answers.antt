use Rattle.rc_promises.proofs.Ordering.{broken-order-refutes}
use Rattle.rc_promises.proofs.ordered_runs.what_breaks_the_order_refutes.Goals as goal

pub returns : goal.returns
returns c = broken-order-refutes
