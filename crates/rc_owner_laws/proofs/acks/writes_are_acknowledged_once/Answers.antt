use Rattle.rc_owner_laws.proofs.Counting.{counted-is-acknowledged}
use Rattle.rc_owner_laws.proofs.Settling.{stored-is-acknowledged}
use Rattle.rc_owner_laws.proofs.Once.{acknowledged-once}
use Rattle.rc_owner_laws.proofs.Moments.{counted-when-stored}
use Rattle.rc_owner_laws.proofs.acks.writes_are_acknowledged_once.Goals as goal

pub returns-clause-counted : goal.returns-clause-counted
returns-clause-counted c = counted-is-acknowledged

pub returns-clause-stored : goal.returns-clause-stored
returns-clause-stored c = stored-is-acknowledged

pub returns-clause-once : goal.returns-clause-once
returns-clause-once c = acknowledged-once

pub returns-clause-moment : goal.returns-clause-moment
returns-clause-moment c = counted-when-stored
