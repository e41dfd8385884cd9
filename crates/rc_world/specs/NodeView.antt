-- A node as the definitions see it.
use Rattle.std.specs.Prelude.{Bool, false, Option, Some, None}
use Rattle.rc_model.specs.Nodes.{runs}
use Rattle.rc_history.specs.Nodes.{Node, TheOutside, TheCoordinator, TheHost}
use Rattle.rc_coordinator.specs.Book.{Book, coordinator_of}
use Rattle.rc_coordinator.specs.Steps.{HasNumbers}
use Rattle.rc_backup.specs.BackupView.{Holdings}
use Rattle.rc_master.specs.Data.{MasterData}
use Rattle.rc_world.specs.HostView.{HostData, HostHasRoom, host_of}

-- what a contract sees of a node
pub data NodeData : Type 0 where
  OutsideData : NodeData
  CoordinatorData : (book : Book) → NodeData
  HostNodeData : (host : HostData) → NodeData

-- a node as the definitions see it
abbrev pub node_seen : NodeData → Node
node_seen OutsideData = TheOutside
node_seen (CoordinatorData book) = TheCoordinator (coordinator_of book)
node_seen (HostNodeData host) = TheHost (host_of host)

-- the book of a node that is the coordinator
abbrev pub book_in : NodeData → Option Book
book_in (CoordinatorData book) = Some book
book_in _ = None

-- the master and the backup of a node that is a host
abbrev pub master_in : NodeData → Option MasterData
master_in (HostNodeData host) = host.master
master_in _ = None

abbrev pub backup_in : NodeData → Option Holdings
backup_in (HostNodeData host) = Some host.backup
backup_in _ = None

-- a server runs on the node
abbrev pub node_runs : Node → Bool
node_runs (TheHost host) = runs host
node_runs _ = false

-- the node's numbers suffice for one more step
abbrev pub NodeHasRoom : Node → Type 0
NodeHasRoom TheOutside = Unit {0}
NodeHasRoom (TheCoordinator c) = HasNumbers c
NodeHasRoom (TheHost host) = HostHasRoom host
