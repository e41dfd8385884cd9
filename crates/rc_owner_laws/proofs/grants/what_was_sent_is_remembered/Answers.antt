use Rattle.rc_owner_laws.proofs.OwnersOrdered.{kept-step, kept-others, kept-none}
use Rattle.rc_owner_laws.proofs.grants.what_was_sent_is_remembered.Goals as goal

pub returns : goal.returns
returns c = record { coordinator = kept-step; others = kept-others; new = kept-none }
