use Rattle.rc_owner_laws.proofs.DataReplays.{data-world}
use Rattle.rc_owner_laws.proofs.data.data_are_cuts.Goals as goal

pub returns : goal.returns
returns c = data-world
