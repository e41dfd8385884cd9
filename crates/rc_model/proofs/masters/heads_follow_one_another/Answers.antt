use Rattle.std.proofs.Common.{subst}
use Rattle.rc_model.proofs.Rules.{AllDone}
use Rattle.rc_model.proofs.Phases.{ClosesPlaced, WritesShut, closes-placed, writes-shut}
use Rattle.rc_model.proofs.Closing.{takes-placed, ticks-placed}
use Rattle.rc_model.proofs.Changes.{rolls-keep}
use Rattle.rc_model.proofs.masters.heads_follow_one_another.Goals as goal

pub returns-clause-closing : goal.returns-clause-closing
returns-clause-closing c master next messages e = subst (AllDone (ClosesPlaced master)) e (closes-placed master)

pub returns-clause-writing : goal.returns-clause-writing
returns-clause-writing c master next messages e = subst (AllDone (WritesShut master)) e (writes-shut master)

pub returns-clause-digest : goal.returns-clause-digest
returns-clause-digest c = rolls-keep

pub returns-clause-steps : goal.returns-clause-steps
returns-clause-steps c = takes-placed

pub returns-clause-ticks : goal.returns-clause-ticks
returns-clause-ticks c = ticks-placed
