use Rattle.std.proofs.lemmas.Result.{IfOk-weaker}
use Rattle.rc_sim.proofs.histories.judged.Goals as goal

pub returns-in-Ok : goal.returns-in-Ok
returns-in-Ok g = record {
  ok = IfOk-weaker g.weighed_answer.result _ _ (λ answer h. h g.args.bytes.now) g.weighed_answer.ensures.ok;
}
