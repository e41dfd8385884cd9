use Rattle.rc_promises.proofs.Refuted.{broken-versions-refute, broken-time-refutes, broken-reads-refute}
use Rattle.rc_promises.proofs.runs.what_breaks_refutes.Goals as goal

pub returns : goal.returns
returns c = record {
  versions = broken-versions-refute;
  time = broken-time-refutes;
  reads = broken-reads-refute;
}
