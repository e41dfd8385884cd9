use Rattle.std.proofs.Common.{true, false, refl}
use Rattle.rc_runs.specs.DrawClaims.{BeginningDoesNotStop}
use Rattle.rc_runs.proofs.drawn_laws.beginning_does_not_stop.Goals as goal

computed : BeginningDoesNotStop
computed true = refl
computed false = refl

pub returns : goal.returns
returns c = computed
