use Rattle.rc_promises.proofs.Once.{one-version-is-one-write, acknowledged-is-written}
use Rattle.rc_promises.proofs.service.one_version_is_one_write.Goals as goal

pub returns : goal.returns
returns c = record { once = one-version-is-one-write; written = acknowledged-is-written }
