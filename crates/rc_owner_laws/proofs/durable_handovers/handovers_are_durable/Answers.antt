use Rattle.rc_owner_laws.proofs.Handing.{durable-is-made, acknowledged-is-handed-on, durable-is-handed-on}
use Rattle.rc_owner_laws.proofs.durable_handovers.handovers_are_durable.Goals as goal

pub returns : goal.returns
returns c = record { made = durable-is-made; acknowledged = acknowledged-is-handed-on; durable = durable-is-handed-on }
