use Rattle.rc_sim.proofs.Limits.{read_within}
use Rattle.rc_sim.proofs.healing.healed_of.Goals as goal

pub answer_of-requires : goal.answer_of-requires
answer_of-requires g c = read_within c.args.bytes.now c.in-Ok.scenario c.in-Ok.ensures.ok
