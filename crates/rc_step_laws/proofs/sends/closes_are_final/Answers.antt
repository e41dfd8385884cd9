use Rattle.rc_step_laws.proofs.InEvents.{closes-are-due-each}
use Rattle.rc_step_laws.proofs.sends.closes_are_final.Goals as goal

pub returns : goal.returns
returns c = closes-are-due-each
