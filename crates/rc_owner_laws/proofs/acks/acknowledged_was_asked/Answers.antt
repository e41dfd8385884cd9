use Rattle.rc_owner_laws.proofs.Asking.{acknowledged-was-asked}
use Rattle.rc_owner_laws.proofs.acks.acknowledged_was_asked.Goals as goal

pub returns : goal.returns
returns c = acknowledged-was-asked
