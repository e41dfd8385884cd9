use Rattle.rc_promises.proofs.Reading.{reads-see-acknowledged-writes}
use Rattle.rc_promises.proofs.service.reads_see_acknowledged_writes.Goals as goal

pub returns : goal.returns
returns c = reads-see-acknowledged-writes
