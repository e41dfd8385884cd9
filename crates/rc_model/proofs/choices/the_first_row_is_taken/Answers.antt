use Rattle.std.proofs.Common.{ap, filter}
use Rattle.rc_model.specs.Pick.{longer_first, head_first, closed_first, first_by, held_rows, is_open_valid, is_valid_of}
use Rattle.rc_model.specs.PickOrders.{IsLonger, IsHigher, IsBetter}
use Rattle.rc_model.proofs.PickOrders.{tells_longer, tells_higher, tells_better, apart_longer, apart_higher}
use Rattle.rc_model.proofs.PickOrders.{apart_better, split_longer, split_higher, split_better}
use Rattle.rc_model.proofs.PickFirsts.{first_by_first, fold_better_IsFirst, first_by_none}
use Rattle.rc_model.proofs.choices.the_first_row_is_taken.Goals as goal

pub returns-clause-longer : goal.returns-clause-longer
returns-clause-longer c = λ rows first. (
  first_by_first longer_first IsLonger tells_longer apart_longer split_longer rows,
  fold_better_IsFirst longer_first IsLonger tells_longer apart_longer split_longer rows,
)

pub returns-clause-higher : goal.returns-clause-higher
returns-clause-higher c = λ rows first. (
  first_by_first head_first IsHigher tells_higher apart_higher split_higher rows,
  fold_better_IsFirst head_first IsHigher tells_higher apart_higher split_higher rows,
)

pub returns-clause-better : goal.returns-clause-better
returns-clause-better c = λ rows first. (
  first_by_first closed_first IsBetter tells_better apart_better split_better rows,
  fold_better_IsFirst closed_first IsBetter tells_better apart_better split_better rows,
)

pub returns-clause-longer_of_none : goal.returns-clause-longer_of_none
returns-clause-longer_of_none c = λ rows. (first_by_none longer_first rows, ap (first_by longer_first))

pub returns-clause-higher_of_none : goal.returns-clause-higher_of_none
returns-clause-higher_of_none c = λ rows. (first_by_none head_first rows, ap (first_by head_first))

pub returns-clause-better_of_none : goal.returns-clause-better_of_none
returns-clause-better_of_none c = λ rows. (first_by_none closed_first rows, ap (first_by closed_first))

pub returns-clause-head : goal.returns-clause-head
returns-clause-head c = λ min replies head. returns-clause-higher c (filter (is_open_valid min) (held_rows replies)) head

pub returns-clause-other : goal.returns-clause-other
returns-clause-other c = λ min replies seg held. returns-clause-better c (filter (is_valid_of min seg) (held_rows replies)) held
