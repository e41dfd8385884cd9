use Rattle.rc_history.proofs.Telling.{has-history}
use Rattle.rc_promises.proofs.OfProcesses.{no-breach-of-processes, nothing-is-missing-of-processes, strong-of-processes}
use Rattle.rc_promises.proofs.headline.headline_of_processes.Goals as goal

pub returns : goal.returns
returns c = record {
  history = has-history;
  no_breach = no-breach-of-processes;
  there = nothing-is-missing-of-processes;
  strong = strong-of-processes;
}
