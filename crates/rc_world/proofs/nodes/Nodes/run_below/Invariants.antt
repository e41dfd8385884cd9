use Rattle.std.proofs.Common.{◌≡◌, ◌++◌}
use Rattle.rc_world.proofs.CopiedHosts.{Entries, AreBelow}
use Rattle.rc_world.proofs.nodes.Nodes.run_below.Given as goal

-- the hosts so far
abbrev pub invariant-loop-index : goal.invariant-loop-index
invariant-loop-index g l = (done : Entries) × (done ++ l.index-iterator ≡ l.self.hosts.entries) × AreBelow l.hosts done
