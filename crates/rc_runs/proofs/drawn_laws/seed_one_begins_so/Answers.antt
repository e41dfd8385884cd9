use Rattle.std.proofs.Common.{refl}
use Rattle.std.specs.Fmt.{digits}
use Rattle.rc_runs.specs.Draw.{played, begun, drawn_step, drawn_from, drawn_world}
use Rattle.rc_runs.specs.Generator.{generator, word, moved}
use Rattle.rc_runs.proofs.drawn_laws.seed_one_begins_so.Goals as goal

-- the definitions compute it
pub returns : goal.returns
unfolding played begun drawn_step drawn_from drawn_world generator word moved digits
returns c = refl
