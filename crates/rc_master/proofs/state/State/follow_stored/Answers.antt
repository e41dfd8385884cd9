use Rattle.rc_master.proofs.Notes.{durable-fits}
use Rattle.rc_master.proofs.state.State.follow_stored.Goals as goal

pub acknowledge-requires-clause-noted : goal.acknowledge-requires-clause-noted
acknowledge-requires-clause-noted c = durable-fits _ _ _ c.requires.noted
