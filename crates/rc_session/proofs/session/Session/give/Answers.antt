use Rattle.rc_session.proofs.Wholes.{took}
use Rattle.rc_session.proofs.session.Session.give.Goals as goal
use Rattle.rc_session.proofs.session.Session.give.Goals.{in-Ok, in-Err-NoRoom, in-Err-Refused-BadEvent, in-Err-Refused}

pub returns-clause-taken : goal.returns-clause-taken
returns-clause-taken c = elim c.match-give.branch [
  | in-Ok w ↦ rw (w.result-is, ← c.self.view_is)
      (took _ _ _ _ w.in-Ok.ensures.taken w.in-Ok.ensures.written)
  | in-Err-NoRoom w ↦ rw w.result-is tt
  | in-Err-Refused-BadEvent w ↦ rw w.result-is tt
  | in-Err-Refused w ↦ rw w.result-is tt
]
