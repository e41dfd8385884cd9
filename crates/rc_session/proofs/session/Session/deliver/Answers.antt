use Rattle.rc_session.proofs.Wholes.{takes_given}
use Rattle.rc_session.proofs.session.Session.deliver.Goals as goal
use Rattle.rc_session.proofs.session.Session.deliver.Goals.{in-Ok, in-Err-Malformed, in-Err-NoMemory, in-Err-NoRoom}

pub returns-clause-taken : goal.returns-clause-taken
returns-clause-taken c = elim c.match-give_message.branch [
  | in-Ok w ↦ rw (w.result-is, ← c.self.view_is)
      (takes_given _ _ _ _ _ w.in-Ok.ensures.coded w.in-Ok.ensures.taken w.in-Ok.ensures.written)
  | in-Err-Malformed w ↦ rw w.result-is tt
  | in-Err-NoMemory w ↦ rw w.result-is tt
  | in-Err-NoRoom w ↦ rw w.result-is tt
]
