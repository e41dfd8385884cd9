use Rattle.rc_step_laws.proofs.InEvents.{grants-go-to-the-up-alone}
use Rattle.rc_step_laws.proofs.sends.grants_go_to_who_is_up.Goals as goal

pub returns : goal.returns
returns c = grants-go-to-the-up-alone
