use Rattle.rc_session.proofs.Wholes.{took}
use Rattle.rc_session.proofs.session.Session.start_whole.Goals as goal
use Rattle.rc_session.proofs.session.Session.start_whole.Goals.{in-Ok, in-Err-NoRoom, in-Err-Refused-BadEvent, in-Err-Refused}

pub returns-clause-started : goal.returns-clause-started
returns-clause-started c = elim c.match-start.branch [
  | in-Ok w ↦ rw (w.result-is, ← c.self.view_is)
      (took _ _ _ _ w.in-Ok.ensures.taken w.in-Ok.ensures.written)
  | in-Err-NoRoom w ↦ rw w.result-is tt
  | in-Err-Refused-BadEvent w ↦ rw w.result-is tt
  | in-Err-Refused w ↦ rw w.result-is tt
]
