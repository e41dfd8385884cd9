use Rattle.rc_owner_laws.proofs.VersionReplays.{versions-rise-with-the-place, no-version-is-acknowledged-twice}
use Rattle.rc_owner_laws.proofs.versions.no_version_comes_twice.Goals as goal

pub returns : goal.returns
returns c = record { with_the_place = versions-rise-with-the-place; once = no-version-is-acknowledged-twice }
