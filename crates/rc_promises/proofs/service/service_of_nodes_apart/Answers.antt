use Rattle.rc_promises.proofs.ServiceApart.{one-write-apart, written-apart, time-apart, reads-apart}
use Rattle.rc_promises.proofs.service.service_of_nodes_apart.Goals as goal

pub returns : goal.returns
returns c = record { once = one-write-apart; written = written-apart; time = time-apart; reads = reads-apart }
