use Rattle.std.proofs.Common.{◌≡◌}
use Rattle.rc_wire.specs.Workload.{starts, asks}
use Rattle.rc_wire.proofs.workload.steps.Given as goal

abbrev pub invariant-loop-host : goal.invariant-loop-host
invariant-loop-host l = l.steps.items ≡ starts l.host

abbrev pub invariant-loop-key : goal.invariant-loop-key
invariant-loop-key l = l.steps.items ≡ asks l.hosts l.key
