use Rattle.rc_model.proofs.PickOrders.{tells_longer, tells_higher, tells_better}
use Rattle.rc_model.proofs.choices.the_orders_are_by_numbers.Goals as goal

pub returns-clause-longer : goal.returns-clause-longer
returns-clause-longer c = tells_longer

pub returns-clause-higher : goal.returns-clause-higher
returns-clause-higher c = tells_higher

pub returns-clause-better : goal.returns-clause-better
returns-clause-better c = tells_better
