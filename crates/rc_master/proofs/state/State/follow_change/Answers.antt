use Rattle.rc_master.proofs.Notes.{same-commit_sent, notes-same}
use Rattle.rc_master.proofs.state.State.follow_change.Goals as goal

pub returns-clause-noted : goal.returns-clause-noted
returns-clause-noted c = rw c.mark_commit_sent.ensures.marked (notes-same _ _ _ _ (same-commit_sent _ _) c.requires.noted)
