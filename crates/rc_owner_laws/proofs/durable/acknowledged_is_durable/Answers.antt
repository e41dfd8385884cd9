use Rattle.rc_owner_laws.proofs.WriteWorlds.{stored-is-durable, counted-is-durable, acknowledged-is-durable}
use Rattle.rc_owner_laws.proofs.durable.acknowledged_is_durable.Goals as goal

pub returns : goal.returns
returns c = record { stored = stored-is-durable; counted = counted-is-durable; acknowledged = acknowledged-is-durable }
