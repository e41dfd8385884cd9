-- What an export answers, as numbers.
use Rattle.std.specs.Prelude.{ℕ}
use Rattle.rc_session.specs.declared.faults.SessionFault.{SessionFault}
use Rattle.rc_session.specs.declared.faults.SessionFault.TheVariants as why

abbrev pub number_of : SessionFault → ℕ
number_of why.NoMemory = 1
number_of why.Malformed = 3
number_of why.Refused = 4
number_of why.UsedUp = 5
number_of why.OutOfRange = 7
number_of why.NoSave = 9
number_of why.TooShort = 10
