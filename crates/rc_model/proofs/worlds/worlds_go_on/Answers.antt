use Rattle.rc_model.specs.World.{opening}
use Rattle.rc_model.proofs.Replays.{replay_from-push, step-impossible, noted, sent_more-step, generations-step}
use Rattle.rc_model.proofs.worlds.worlds_go_on.Goals as goal

pub returns-clause-one_more : goal.returns-clause-one_more
returns-clause-one_more c setup events event = replay_from-push (opening setup) events event

pub returns-clause-impossible : goal.returns-clause-impossible
returns-clause-impossible c = step-impossible

pub returns-clause-noted : goal.returns-clause-noted
returns-clause-noted c = noted

pub returns-clause-sent : goal.returns-clause-sent
returns-clause-sent c = sent_more-step

pub returns-clause-generations : goal.returns-clause-generations
returns-clause-generations c = generations-step
