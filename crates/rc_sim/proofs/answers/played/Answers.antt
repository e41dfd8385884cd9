use Rattle.rc_sim.proofs.Endings.{whole_answer, stopped_answer}
use Rattle.rc_sim.proofs.answers.played.Goals as goal

pub returns-in-Ok : goal.returns-in-Ok
returns-in-Ok g c = record {
  ok = whole_answer c.args.output c.ended.result c.args.scenario c.as_slice.result.now c.new-run.result
      c.play_all.new.self c.world-world.result.now
      c.as_slice.ensures c.new-run.ensures c.world-world.ensures.world c.in-Ok.ensures.ok c.world-world.ensures.few
      c.ended.ensures.verdict c.ended.ensures.text;
}

pub returns : goal.returns
returns g c = record {
  ok = stopped_answer c.args.output c.stopped.result c.args.scenario c.as_slice.result.now c.new-run.result
      c.play_all.new.self c.world.result.now
      c.in-Err.place c.in-Err.fault c.code.result c.as_slice.ensures c.new-run.ensures c.world.ensures.world
      c.code.ensures c.in-Err.ensures.err c.in-Err.ensures.fault
      c.world.ensures.taken c.world.ensures.few c.stopped.ensures.verdict c.stopped.ensures.text;
}
