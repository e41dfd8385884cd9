use Rattle.std.proofs.Common.{true, false, refl}
use Rattle.rc_runs.specs.DrawClaims.{BeginningHas52Events}
use Rattle.rc_runs.specs.Draw.{played, begun, drawn_from, drawn_world}
use Rattle.rc_runs.proofs.drawn_laws.beginning_has_52_events.Goals as goal

computed : BeginningHas52Events
unfolding played begun drawn_from drawn_world
computed seed true = refl
computed seed false = refl

pub returns : goal.returns
returns c = computed
