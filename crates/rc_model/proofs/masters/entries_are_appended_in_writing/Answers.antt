use Rattle.rc_model.proofs.StepSends.{writes-where-it-may, appends-where-it-writes}
use Rattle.rc_model.proofs.masters.entries_are_appended_in_writing.Goals as goal

pub returns-clause-begins : goal.returns-clause-begins
returns-clause-begins c = writes-where-it-may

pub returns-clause-appends : goal.returns-clause-appends
returns-clause-appends c = appends-where-it-writes
