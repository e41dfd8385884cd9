use Rattle.rc_promises.proofs.NoneLater.{confirmed-reads-miss-nothing}
use Rattle.rc_promises.proofs.confirmed.confirmed_reads_miss_nothing.Goals as goal

pub returns : goal.returns
returns c = confirmed-reads-miss-nothing
