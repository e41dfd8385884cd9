use Rattle.rc_clients.proofs.PendingLemmas.{answered_begin}
use Rattle.rc_clients.proofs.pending.answered_in.Goals as goal

pub loop-moment-init : goal.loop-moment-init
loop-moment-init c = answered_begin c.new-answered.ensures.empty
