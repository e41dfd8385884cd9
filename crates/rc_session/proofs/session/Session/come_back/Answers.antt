use Rattle.std.proofs.Common.{ap, Err}
use Rattle.rc_session.proofs.session.Session.come_back.Goals as goal

pub returns-in-Err-NoSave-clause-none : goal.returns-in-Err-NoSave-clause-none
returns-in-Err-NoSave-clause-none c = λ e. c.in-Err-NoSave.ensures.none (ap Err c.in-Err-NoSave.field-0-is)

pub returns-in-Err-TooShort-clause-short : goal.returns-in-Err-TooShort-clause-short
returns-in-Err-TooShort-clause-short c = λ e. c.in-Err-TooShort.ensures.short (ap Err c.in-Err-TooShort.field-0-is)

pub returns-in-Err-NoRoom-clause-full : goal.returns-in-Err-NoRoom-clause-full
returns-in-Err-NoRoom-clause-full c = λ e. c.in-Err-NoRoom.ensures.full c.in-Err-NoRoom.field-0-is
