use Rattle.rc_sim.proofs.Limits.{read_within}
use Rattle.rc_sim.proofs.shrinking.shrunk_of.Goals as goal

pub smallest-requires : goal.smallest-requires
smallest-requires g = read_within g.args.bytes.now g.in-Ok.scenario g.in-Ok.ensures.ok
