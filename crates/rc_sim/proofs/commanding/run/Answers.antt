use Rattle.rc_sim.proofs.Closings.{keeps_same}
use Rattle.rc_sim.proofs.commanding.run.Goals as goal

pub returns-in-Err-clause-answered : goal.returns-in-Err-clause-answered
returns-in-Err-clause-answered g c = keeps_same (g.W.Write.contents c.args.writer.now.inner)
