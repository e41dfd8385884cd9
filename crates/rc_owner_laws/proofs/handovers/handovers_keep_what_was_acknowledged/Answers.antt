use Rattle.rc_owner_laws.proofs.VersionReplays.{handovers-keep-acknowledged, handovers-keep-durable, previous-is-earlier}
use Rattle.rc_owner_laws.proofs.handovers.handovers_keep_what_was_acknowledged.Goals as goal

pub returns : goal.returns
returns c = record { acknowledged = handovers-keep-acknowledged; durable = handovers-keep-durable; previous = previous-is-earlier }
