use Rattle.rc_master.proofs.Notes.{same-close_marked, notes-same}
use Rattle.rc_master.proofs.state.State.follow_closing.Goals as goal

pub returns-clause-noted : goal.returns-clause-noted
returns-clause-noted c = rw c.mark_close_sent.ensures.state (notes-same _ _ _ _ (same-close_marked _) c.requires.noted)
