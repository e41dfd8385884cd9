use Rattle.rc_promises.proofs.LinearProcesses.{linearizable-of-processes, each-write-of-processes, what-leaves-was-done}
use Rattle.rc_promises.proofs.LinearProcesses.{says-the-same, conditional-writes-of-processes}
use Rattle.rc_promises.proofs.linear_lives.linearizable_of_processes.Goals as goal

pub returns : goal.returns
returns c = record {
  processes = linearizable-of-processes;
  same = says-the-same;
  conditional = conditional-writes-of-processes;
  writes = each-write-of-processes;
  sent = what-leaves-was-done;
}
