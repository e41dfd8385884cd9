use Rattle.rc_owner_laws.proofs.VersionReplays.{all-world}
use Rattle.rc_owner_laws.proofs.facts.facts_hold.Goals as goal

pub returns : goal.returns
returns c = all-world
