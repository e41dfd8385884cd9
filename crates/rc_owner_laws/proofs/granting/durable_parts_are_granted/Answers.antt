use Rattle.rc_owner_laws.proofs.GrantedParts.{durable-parts-are-granted}
use Rattle.rc_owner_laws.proofs.granting.durable_parts_are_granted.Goals as goal

pub returns : goal.returns
returns c = durable-parts-are-granted c.a_decided_recovery_can_be_granted.ensures.granted
