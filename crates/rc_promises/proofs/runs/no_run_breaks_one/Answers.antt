use Rattle.rc_promises.proofs.Refuted.{no-run-breaks-one}
use Rattle.rc_promises.proofs.runs.no_run_breaks_one.Goals as goal

pub returns : goal.returns
returns c = no-run-breaks-one
