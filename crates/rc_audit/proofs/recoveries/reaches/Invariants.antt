use Rattle.std.proofs.Common.{◌≡◌, List, ◌++◌}
use Rattle.std.specs.Slice.Iter.{iter_rest}
use Rattle.rc_types.specs.declared.rows.PlanRow.{PlanRow}
use Rattle.rc_audit.specs.Recoveries.{HasReaches}
use Rattle.rc_audit.proofs.recoveries.reaches.Given as goal

-- the rows from the last on, as far as they were taken
abbrev pub invariant-loop-row : goal.invariant-loop-row
invariant-loop-row l = (taken : List PlanRow) × (iter_rest l.row-iterator.iter ++ taken ≡ l.rows) × HasReaches l.reaches taken
