use Rattle.std.proofs.Common.{◌≡◌, ◌∙◌, Some, None, sym}
use Rattle.rc_world.specs.Happened.{replayed}
use Rattle.rc_runs.specs.Draw.{event_of, drawn_step}
use Rattle.rc_runs.proofs.Played.{step_tried, step_passed}
use Rattle.rc_runs.proofs.drawing.draw_step.Goals as goal

pub returns-in-Some-clause-made : goal.returns-in-Some-clause-made
unfolding drawn_step
returns-in-Some-clause-made c =
    let world = replayed c.args.world.now in
    let same : Some c.in-Some.event ≡ event_of world c.args.number c.args.words =
    sym c.in-Some.is ∙ c.in_ok-event.ensures in
    step_tried c.try_event.result world (replayed c.try_event.new.world) c.in-Some.event
    (event_of world c.args.number c.args.words) same c.try_event.ensures.made

pub returns-in-None-clause-made : goal.returns-in-None-clause-made
unfolding drawn_step
returns-in-None-clause-made c =
    let world = replayed c.args.world.now in
    let same : None ≡ event_of world c.args.number c.args.words =
    sym c.in-None.is ∙ c.in_ok-event.ensures in
    step_passed world (event_of world c.args.number c.args.words) same
