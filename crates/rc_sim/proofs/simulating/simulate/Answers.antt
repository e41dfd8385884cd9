use Rattle.rc_sim.specs.declared.verdicts.Output.TheVariants.{Report}
use Rattle.rc_sim.specs.Verdicts.{Played}
use Rattle.rc_sim.proofs.Closings.{wholly, partly, without_memory, without_input}
use Rattle.rc_sim.proofs.simulating.simulate.Goals as goal

pub returns-clause-ok : goal.returns-clause-ok
returns-clause-ok g c =
    wholly (Played Report) c.play.result (g.R.Read.remaining c.args.reader.now.inner) (g.W.Write.contents c.args.writer.now.inner)
    (g.W.Write.contents c.play.new.writer.inner) c.play.ensures.answered

pub returns-clause-cut_short : goal.returns-clause-cut_short
returns-clause-cut_short g c count same =
    partly (Played Report) c.play.result (g.R.Read.remaining c.args.reader.now.inner) (g.W.Write.contents c.args.writer.now.inner)
    (g.W.Write.contents c.play.new.writer.inner) count c.play.ensures.answered same

pub returns-clause-nothing_without_memory : goal.returns-clause-nothing_without_memory
returns-clause-nothing_without_memory g c same =
    without_memory (Played Report) c.play.result (g.R.Read.remaining c.args.reader.now.inner) (g.W.Write.contents c.args.writer.now.inner)
    (g.W.Write.contents c.play.new.writer.inner) c.play.ensures.answered same

pub returns-clause-nothing_unread : goal.returns-clause-nothing_unread
returns-clause-nothing_unread g c same =
    without_input (Played Report) c.play.result (g.R.Read.remaining c.args.reader.now.inner) (g.W.Write.contents c.args.writer.now.inner)
    (g.W.Write.contents c.play.new.writer.inner) c.play.ensures.answered same
