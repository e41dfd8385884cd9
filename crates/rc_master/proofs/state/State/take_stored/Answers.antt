use Rattle.rc_master.proofs.Notes.{same-stored, notes-same}
use Rattle.rc_master.proofs.state.State.take_stored.Goals as goal

pub returns-clause-noted : goal.returns-clause-noted
returns-clause-noted c =
    rw c.stored.ensures.noted
    (notes-same _ _ _ _ (same-stored c.args.seg c.args.from c.args.epoch c.args.len c.args.closed _) c.requires.noted)
