use Rattle.rc_master.proofs.Notes.{same-committed, notes-same}
use Rattle.rc_master.proofs.state.State.take_committed.Goals as goal

pub returns-clause-noted : goal.returns-clause-noted
returns-clause-noted c = rw c.committed_at.ensures.noted
    (notes-same _ _ _ _ (same-committed c.args.seg c.args.epoch _) c.requires.noted)
