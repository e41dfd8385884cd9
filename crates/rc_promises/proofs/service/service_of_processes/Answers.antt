use Rattle.rc_history.proofs.Telling.{has-history}
use Rattle.rc_history.proofs.Since.{stays-left}
use Rattle.rc_promises.proofs.OfProcesses.{one-write-of-processes, written-of-processes, time-of-processes, reads-of-processes}
use Rattle.rc_promises.proofs.OfProcesses.{reads-when-made}
use Rattle.rc_promises.proofs.service.service_of_processes.Goals as goal

pub returns : goal.returns
returns c = record {
  history = has-history;
  stays = stays-left;
  once = one-write-of-processes;
  written = written-of-processes;
  time = time-of-processes;
  reads = reads-of-processes;
  made = reads-when-made;
}
