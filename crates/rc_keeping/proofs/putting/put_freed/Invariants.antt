use Rattle.std.proofs.Common.{◌≡◌, ◌++◌}
use Rattle.std.specs.List.{flat_map}
use Rattle.rc_codec.specs.Parts.{two_bytes}
use Rattle.rc_keeping.proofs.putting.put_freed.Given as goal

-- what stands there so far, and then what is left
abbrev pub invariant-loop-seg : goal.invariant-loop-seg
invariant-loop-seg l = l.out.items ++ flat_map two_bytes l.seg-iterator ≡ l.initial.out.items ++ flat_map two_bytes l.freed.keys
