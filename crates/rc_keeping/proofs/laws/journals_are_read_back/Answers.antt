use Rattle.rc_keeping.proofs.JournalLaws.{written-is-read-back, cut-gives-a-beginning, what-stands-before-is-read}
use Rattle.rc_keeping.proofs.laws.journals_are_read_back.Goals as goal

pub returns-clause-written : goal.returns-clause-written
returns-clause-written c = written-is-read-back

pub returns-clause-cut : goal.returns-clause-cut
returns-clause-cut c = cut-gives-a-beginning

pub returns-clause-before : goal.returns-clause-before
returns-clause-before c = what-stands-before-is-read
