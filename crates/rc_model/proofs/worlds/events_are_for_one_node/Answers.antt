use Rattle.rc_model.proofs.Ids.{same_node-true, same_node-refl}
use Rattle.rc_model.proofs.Replays.{hosts-follow, coordinator-follows}
use Rattle.rc_model.proofs.worlds.events_are_for_one_node.Goals as goal

pub returns-clause-hosts : goal.returns-clause-hosts
returns-clause-hosts c = hosts-follow

pub returns-clause-coordinator : goal.returns-clause-coordinator
returns-clause-coordinator c = coordinator-follows

pub returns-clause-same : goal.returns-clause-same
returns-clause-same c = same_node-true

pub returns-clause-itself : goal.returns-clause-itself
returns-clause-itself c = same_node-refl
