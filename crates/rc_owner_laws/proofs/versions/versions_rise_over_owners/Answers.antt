use Rattle.rc_owner_laws.proofs.VersionReplays.{versions-rise-over-owners, there-is-no-breach}
use Rattle.rc_owner_laws.proofs.versions.versions_rise_over_owners.Goals as goal

pub returns : goal.returns
returns c = record { rises = versions-rise-over-owners; no_breach = there-is-no-breach }
