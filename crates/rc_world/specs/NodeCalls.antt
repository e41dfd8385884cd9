-- A call of a node that runs apart, as a step of a history.
use Rattle.std.specs.Prelude.{◌≡◌, ℕ, true, List}
use Rattle.rc_types.specs.declared.events.Setup.{Setup}
use Rattle.rc_history.specs.Nodes.{Node, name_of, new_node, event_of, node_can, node_step}
use Rattle.rc_history.specs.Apart.{Step, sent_by, left_at, Follows, WasSent}
use Rattle.rc_types.specs.declared.events.NodeWork.{NodeWork}

-- the call as a step: what `NodeState::step` ensures of the node and of what it sends
abbrev pub step_of : Node → ℕ → NodeWork → Step
step_of node number given = record {
  node = name_of node;
  event = event_of node number given;
  work = given;
  before = node;
  after = (node_step node given).0;
  sent = (node_step node given).1;
}

-- a call that isn't refused can be taken after these steps
abbrev pub CallsAreSteps : Type 0
CallsAreSteps = (setup : Setup) (earlier : List Step) (node : Node) (number : ℕ) (given : NodeWork) →
    node ≡ left_at (name_of node) (new_node setup (name_of node)) earlier →
    WasSent (sent_by earlier) node number given →
    node_can node given ≡ true → Follows setup earlier (step_of node number given)
