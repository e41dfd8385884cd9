use Rattle.rc_owner_laws.proofs.OwnerSteps.{moved, new-grants}
use Rattle.rc_owner_laws.proofs.grants.the_coordinator_keeps_the_grants.Goals as goal

pub returns : goal.returns
returns c = record { steps = moved; new = new-grants }
