use Rattle.rc_world.specs.Happened.{replayed}
use Rattle.rc_runs.specs.Draw.{drawn_from}
use Rattle.rc_runs.specs.Generator.{generator}
use Rattle.rc_runs.proofs.StepsDrawn.{steps_begin, steps_go_on, steps_end}
use Rattle.rc_runs.proofs.drawing.draw_steps.Goals as goal

pub loop-number-init : goal.loop-number-init
loop-number-init c = record {
  left = steps_begin c.args.steps c.generator_of-generator.result (generator c.args.seed) (replayed c.args.world.now)
      c.generator_of-generator.ensures;
  taken = c.requires;
}

pub loop-number-preserved : goal.loop-number-preserved
loop-number-preserved c = record {
  left = steps_go_on c.args.steps c.loop-number.number c.loop-number.generator c.take-words.new.generator
      c.take-words.result (replayed c.loop-number.world) (replayed c.draw_step.new.world)
      (drawn_from c.args.steps 0 (generator c.args.seed) (replayed c.args.world.now))
      c.loop-number-test.true c.take-words.ensures.words c.take-words.ensures.rest c.in_ok-draw_step.ensures.made
      c.loop-number.invariant.left;
  taken = c.in_ok-draw_step.ensures.taken;
}

pub returns-clause-made : goal.returns-clause-made
returns-clause-made c =
    steps_end c.args.steps c.loop-number.number c.loop-number.generator (replayed c.loop-number.world)
    (drawn_from c.args.steps 0 (generator c.args.seed) (replayed c.args.world.now)) c.loop-number-test.false
    c.loop-number.invariant.left
