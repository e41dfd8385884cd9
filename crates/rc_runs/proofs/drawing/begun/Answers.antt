use Rattle.std.proofs.Common.{◌≡◌, ◌∙◌, ap, subst, sym}
use Rattle.rc_world.specs.Happened.{Happened, replayed}
use Rattle.rc_runs.proofs.StepsDrawn.{begun_from}
use Rattle.rc_runs.proofs.drawing.begun.Goals as goal

pub returns-in-Ok-clause-world : goal.returns-in-Ok-clause-world
returns-in-Ok-clause-world c =
    ap replayed c.into_world.ensures.world
    ∙ begun_from c.args.free c.drawing_setup.result c.new-run.result c.begin.new.run c.drawing_setup.ensures
    c.new-run.ensures c.in-Ok.ensures

pub returns-in-Ok-clause-taken : goal.returns-in-Ok-clause-taken
returns-in-Ok-clause-taken c =
    subst (λ (w : Happened). (replayed w).events ≡ w.events) (sym c.into_world.ensures.world) c.into_world.ensures.taken
