use Rattle.rc_sim.proofs.Limits.{read_within}
use Rattle.rc_sim.proofs.narrating.story_of.Goals as goal

pub told-requires : goal.told-requires
told-requires g = read_within g.args.bytes.now g.in-Ok.scenario g.in-Ok.ensures.ok
