use Rattle.rc_model.specs.Ascending.{ascending}
use Rattle.rc_model.proofs.Ascending.{IsAscending-ascending, IsStrictlyIncreasing-ascending, In-ascending}
use Rattle.rc_model.proofs.Ascending.{In-from_ascending, In-contains, Contains-in}
use Rattle.rc_model.proofs.PickColumns.{segs-taken}
use Rattle.rc_model.proofs.choices.a_plan_has_a_row_for_each_segment.Goals as goal

pub returns-clause-rows : goal.returns-clause-rows
returns-clause-rows c = λ min replies plan is. segs-taken min replies is.head (ascending is.head.row.digest) plan.rows is.taken

pub returns-clause-increasing : goal.returns-clause-increasing
returns-clause-increasing c = λ digest. IsStrictlyIncreasing-ascending (ascending digest) (IsAscending-ascending digest)

pub returns-clause-same : goal.returns-clause-same
returns-clause-same c = λ digest seg. (
  λ at. Contains-in seg digest (In-from_ascending seg digest (In-contains seg (ascending digest) at)),
  λ at. Contains-in seg (ascending digest) (In-ascending seg digest (In-contains seg digest at)),
)
