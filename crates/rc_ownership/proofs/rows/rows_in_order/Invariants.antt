use Rattle.std.proofs.Common.{◌≡◌, ℕ, List, ◌++◌, map, length}
use Rattle.rc_model.specs.Model.{ServerId, awaited_row, rows_in_order}
use Rattle.rc_ownership.proofs.rows.rows_in_order.Given as goal

-- the last rows, which were gone over, are in order
abbrev pub invariant-loop-seg : goal.invariant-loop-seg
invariant-loop-seg l =
    (last : List (ℕ × ServerId)) × (l.rest ++ last ≡ l.rows) × (l.ordered.items ≡ rows_in_order (map awaited_row last))

abbrev pub decreases-loop-seg : goal.decreases-loop-seg
decreases-loop-seg l = length l.rest
