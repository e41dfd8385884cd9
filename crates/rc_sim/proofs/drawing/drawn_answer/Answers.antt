use Rattle.rc_sim.proofs.Endings.{drawn_of}
use Rattle.rc_sim.proofs.NoBreaches.{world_answer}
use Rattle.rc_sim.proofs.drawing.drawn_answer.Goals as goal

pub returns-in-Ok-clause-ok : goal.returns-in-Ok-clause-ok
returns-in-Ok-clause-ok g =
    drawn_of g.ended.result g.in-Ok.world g.args.seed g.args.steps g.args.free g.in-Ok.ensures.world
    g.ended.ensures.verdict g.ended.ensures.text

pub returns-in-Ok-clause-no_breach : goal.returns-in-Ok-clause-no_breach
returns-in-Ok-clause-no_breach g = world_answer g.ended.result g.in-Ok.world g.ended.ensures.verdict
