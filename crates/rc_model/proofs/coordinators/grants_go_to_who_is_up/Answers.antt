use Rattle.rc_model.proofs.GrantsUp.{grants-go-only-to-the-up}
use Rattle.rc_model.proofs.coordinators.grants_go_to_who_is_up.Goals as goal

pub returns : goal.returns
returns c = grants-go-only-to-the-up
