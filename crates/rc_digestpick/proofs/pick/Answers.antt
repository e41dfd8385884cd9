use Rattle.std.proofs.Common.{rules}
use Rattle.rc_digestpick.proofs.Clauses.{is_picked, is_missed}
use Rattle.rc_digestpick.proofs.pick.Goals as goal

pub returns-in-Some-clause-picked : goal.returns-in-Some-clause-picked
returns-in-Some-clause-picked c = search (rules, is_picked)

pub returns-in-Some-clause-not_taken : goal.returns-in-Some-clause-not_taken
returns-in-Some-clause-not_taken c = search (rules, is_missed)
