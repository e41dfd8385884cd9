use Rattle.std.proofs.Common.{length, Some}
use Rattle.rc_reading.specs.declared.pairs.Pair.TheVariants.{Nothing}
use Rattle.rc_reading.specs.All.{id_item}
use Rattle.rc_reading.proofs.Loops.{AreFolded}
use Rattle.rc_reading.proofs.wanted.id_items.Given as goal

-- what the items to come make of what there is
abbrev pub invariant-items : goal.invariant-items
invariant-items l = AreFolded (λ pair d. Some (id_item pair d)) (Some Nothing) (Some l.so_far) l.depth l.initial.reader l.reader

abbrev pub decreases-items : goal.decreases-items
decreases-items l = length l.reader
