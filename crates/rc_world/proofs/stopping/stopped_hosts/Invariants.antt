use Rattle.std.proofs.Common.{◌≡◌, ◌++◌, map}
use Rattle.rc_world.specs.Stops.{halted_entry}
use Rattle.rc_world.proofs.CopiedHosts.{Entries}
use Rattle.rc_world.proofs.stopping.stopped_hosts.Given as goal

-- the hosts so far
abbrev pub invariant-loop-index : goal.invariant-loop-index
invariant-loop-index l =
    (done : Entries) × (done ++ l.index-iterator ≡ l.hosts.entries) × (l.copies.entries ≡ map halted_entry done)
