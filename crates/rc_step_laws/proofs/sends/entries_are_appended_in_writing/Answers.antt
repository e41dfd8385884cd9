use Rattle.rc_step_laws.proofs.InEvents.{writes-where-it-may-each, keeps-unless-written}
use Rattle.rc_step_laws.proofs.sends.entries_are_appended_in_writing.Goals as goal

pub returns-clause-begins : goal.returns-clause-begins
returns-clause-begins c = writes-where-it-may-each

pub returns-clause-appends : goal.returns-clause-appends
returns-clause-appends c = keeps-unless-written
