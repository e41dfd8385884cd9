use Rattle.rc_history.proofs.Longer.{legal_from-append, legal-noted, events_from-append, longer-sent, longer-number, node-stays}
use Rattle.rc_history.proofs.laws.histories_go_on.Goals as goal

pub returns-clause-legal : goal.returns-clause-legal
returns-clause-legal c = legal_from-append

pub returns-clause-noted : goal.returns-clause-noted
returns-clause-noted c = legal-noted

pub returns-clause-taken : goal.returns-clause-taken
returns-clause-taken c = events_from-append

pub returns-clause-sent : goal.returns-clause-sent
returns-clause-sent c = longer-sent

pub returns-clause-numbers : goal.returns-clause-numbers
returns-clause-numbers c = longer-number

pub returns-clause-same : goal.returns-clause-same
returns-clause-same c = node-stays
