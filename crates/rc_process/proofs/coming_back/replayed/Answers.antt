use Rattle.rc_process.proofs.coming_back.replayed.Goals as goal

pub returns-in-Err-Malformed-clause-none : goal.returns-in-Err-Malformed-clause-none
returns-in-Err-Malformed-clause-none g c = λ _. c.in-Err-Malformed.ensures.refused c.in-Err-Malformed.field-0-is
