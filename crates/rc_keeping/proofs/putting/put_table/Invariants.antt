use Rattle.std.proofs.Common.{◌≡◌, ◌++◌}
use Rattle.std.specs.List.{flat_map}
use Rattle.rc_keeping.specs.Order.{AreHeldInOrder}
use Rattle.rc_keeping.specs.Saved.{held_code}
use Rattle.rc_keeping.proofs.putting.put_table.Given as goal

-- what stands there so far, and then what is left; and all is in order where what is left is
abbrev pub invariant-loop-master : goal.invariant-loop-master
invariant-loop-master l = record {
  written : l.out.items ++ flat_map held_code l.master-iterator ≡ l.initial.out.items ++ flat_map held_code l.table.entries;
  ordered : AreHeldInOrder l.master-iterator → AreHeldInOrder l.table.entries;
}
