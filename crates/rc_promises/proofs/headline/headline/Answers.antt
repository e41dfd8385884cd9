use Rattle.rc_step_laws.proofs.KeptWorlds.{nothing-is-dropped}
use Rattle.rc_owner_laws.proofs.VersionReplays.{there-is-no-breach}
use Rattle.rc_promises.proofs.headline.headline.Goals as goal

pub returns-clause-no_breach : goal.returns-clause-no_breach
returns-clause-no_breach c = there-is-no-breach

pub returns-clause-strong : goal.returns-clause-strong
returns-clause-strong c = nothing-is-dropped
