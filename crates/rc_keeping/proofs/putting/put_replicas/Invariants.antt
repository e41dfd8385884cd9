use Rattle.std.proofs.Common.{◌≡◌, ◌++◌}
use Rattle.std.specs.List.{flat_map}
use Rattle.rc_keeping.specs.Saved.{replica_code}
use Rattle.rc_keeping.proofs.putting.put_replicas.Given as goal

-- what stands there so far, and then what is left
abbrev pub invariant-loop-seg : goal.invariant-loop-seg
invariant-loop-seg l = l.out.items ++ flat_map replica_code l.seg-iterator ≡ l.initial.out.items ++ flat_map replica_code l.replicas.entries
