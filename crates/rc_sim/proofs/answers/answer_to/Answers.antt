use Rattle.rc_sim.proofs.Limits.{read_within}
use Rattle.rc_sim.proofs.answers.answer_to.Goals as goal

pub played-requires : goal.played-requires
played-requires g c = read_within c.args.bytes.now c.in-Ok.scenario c.in-Ok.ensures.ok
