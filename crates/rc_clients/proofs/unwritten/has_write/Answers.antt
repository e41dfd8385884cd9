use Rattle.std.proofs.Common.{◌∙◌, sym}
use Rattle.rc_clients.proofs.VersionLemmas.{write_absent, write_there}
use Rattle.rc_clients.proofs.unwritten.has_write.Goals as goal

pub returns-in-Some : goal.returns-in-Some
returns-in-Some c = write_there c.requires c.version_name.ensures (sym (c.in-Some.ensures ∙ c.get.ensures.value))

pub returns-in-None : goal.returns-in-None
returns-in-None c = write_absent c.requires c.version_name.ensures (sym (c.in-None.ensures ∙ c.get.ensures.value))
