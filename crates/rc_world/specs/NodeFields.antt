-- A node's fields, as its contracts see them.
use Rattle.rc_world.specs.declared.node.Node.{Node}
use Rattle.rc_world.specs.declared.node.Node.TheVariants.{Outside, Coordinator, Host}
use Rattle.rc_world.specs.NodeView.{NodeData, OutsideData, CoordinatorData, HostNodeData}

abbrev pub node_data : {A : _} → Node A → NodeData
node_data Outside = OutsideData
node_data (Coordinator book) = CoordinatorData book
node_data (Host host) = HostNodeData host
