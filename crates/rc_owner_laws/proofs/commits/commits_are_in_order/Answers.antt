use Rattle.rc_owner_laws.proofs.Ordering.{commits-are-asked-in-order}
use Rattle.rc_owner_laws.proofs.Leasts.{commits-are-in-order, least-pairs-are-in-order}
use Rattle.rc_owner_laws.proofs.commits.commits_are_in_order.Goals as goal

pub returns-clause-asked : goal.returns-clause-asked
returns-clause-asked c = commits-are-asked-in-order

pub returns-clause-order : goal.returns-clause-order
returns-clause-order c = commits-are-in-order

pub returns-clause-least : goal.returns-clause-least
returns-clause-least c = least-pairs-are-in-order
