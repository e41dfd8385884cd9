use Rattle.rc_clients.proofs.JudgeLemmas.{breaks_refute}
use Rattle.rc_clients.proofs.judging.violations_refute.Goals as goal

pub returns : goal.returns
returns c = breaks_refute
