use Rattle.std.proofs.Common.{◌≤◌, List, length, subst}
use Rattle.rc_model.specs.Model.{Event, MAX_EVENTS}
use Rattle.rc_world.specs.Happened.{replayed}
use Rattle.rc_runs.proofs.StepsDrawn.{drawn_all, drawn_events}
use Rattle.rc_runs.proofs.drawing.drawn_world.Goals as goal

pub returns-in-Ok-draw_steps-clause-world : goal.returns-in-Ok-draw_steps-clause-world
returns-in-Ok-draw_steps-clause-world c =
    drawn_all c.args.seed c.args.steps c.args.free (replayed c.in-Ok.world) (replayed c.draw_steps.new.world)
    c.in-Ok.ensures.world c.in-Ok-draw_steps.ensures.made

pub returns-in-Ok-draw_steps-clause-events : goal.returns-in-Ok-draw_steps-clause-events
returns-in-Ok-draw_steps-clause-events c =
    drawn_events c.args.seed c.args.steps c.args.free c.draw_steps.new.world c.in-Ok-draw_steps.ensures.taken
    (drawn_all c.args.seed c.args.steps c.args.free (replayed c.in-Ok.world) (replayed c.draw_steps.new.world)
    c.in-Ok.ensures.world c.in-Ok-draw_steps.ensures.made)

pub returns-in-Ok-draw_steps-clause-few : goal.returns-in-Ok-draw_steps-clause-few
returns-in-Ok-draw_steps-clause-few c =
    let P : List Event → Type 0 = λ events. length events ≤ MAX_EVENTS in
    subst P c.events-events.ensures.events c.events-events.ensures.few
