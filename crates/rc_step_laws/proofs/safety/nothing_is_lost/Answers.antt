use Rattle.rc_step_laws.proofs.Replays.{nothing-is-missing, nothing-is-invented}
use Rattle.rc_step_laws.proofs.safety.nothing_is_lost.Goals as goal

pub returns : goal.returns
returns c = record { there = nothing-is-missing; one_entry = nothing-is-invented }
