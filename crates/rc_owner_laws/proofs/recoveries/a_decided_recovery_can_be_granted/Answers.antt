use Rattle.rc_owner_laws.proofs.Grantable.{planned-parts-are-tablets, planned-parts-can-be-granted, no-server-lacks}
use Rattle.rc_owner_laws.proofs.recoveries.a_decided_recovery_can_be_granted.Goals as goal

pub returns : goal.returns
returns c = record { tablets = planned-parts-are-tablets; granted = planned-parts-can-be-granted; never_lacking = no-server-lacks }
