use Rattle.rc_owner_laws.proofs.VersionReplays.{grants-start-from-their-base}
use Rattle.rc_owner_laws.proofs.granted.grants_start_from_their_base.Goals as goal

pub returns : goal.returns
returns c = grants-start-from-their-base
