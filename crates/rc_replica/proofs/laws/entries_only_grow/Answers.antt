use Rattle.rc_replica.proofs.Beginnings.{placed_begins, appended_begins}
use Rattle.rc_replica.proofs.laws.entries_only_grow.Goals as goal

pub returns-clause-placed : goal.returns-clause-placed
returns-clause-placed c = placed_begins

pub returns-clause-appended : goal.returns-clause-appended
returns-clause-appended c = appended_begins
