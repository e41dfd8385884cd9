-- A host in two parts: what it is by itself, and what it keeps as a backup; and the host that is made of these again.
use Rattle.std.specs.Prelude.{Option, Some, None, if◌then◌else◌}
use Rattle.rc_types.specs.declared.ids.ServerId.{ServerId}
use Rattle.rc_model.specs.Backup.{Backup}
use Rattle.rc_model.specs.Master.{Master, new_master}
use Rattle.rc_model.specs.Nodes.{HostNode, runs}
use Rattle.rc_backup.specs.BackupView.{Holdings, backup_of}
use Rattle.rc_world.specs.HostView.{host_of}
use Rattle.rc_world.specs.NodeView.{NodeData, HostNodeData}
use Rattle.rc_world.specs.declared.head.HostHead.{HostHead}

-- the server of its last start
abbrev pub last_server : HostHead → ServerId
last_server head = record { index = head.index; generation = head.generation }

-- what a host is by itself
abbrev pub head_of : HostNode → HostHead
head_of host = record {
  index = host.index;
  setup = host.setup;
  generation = host.generation;
  runs = runs host;
}

-- where it runs, a master that has just begun
abbrev pub begun_master : HostHead → Option Master
begun_master head = if head.runs then Some (new_master (last_server head) head.setup) else None

-- the host that is so, and keeps this
abbrev pub host_with : HostHead → Backup → HostNode
host_with head backup = record {
  index = head.index;
  setup = head.setup;
  generation = head.generation;
  backup = backup;
  master = begun_master head;
}

-- both parts
pub record HostParts : Type 0 where
  pub head : HostHead
  pub backup : Holdings

-- the parts of a node that is a host
abbrev pub host_parts_in : NodeData → Option HostParts
host_parts_in (HostNodeData host) = Some (record { head = head_of (host_of host); backup = host.backup })
host_parts_in _ = None

-- the host of these parts
abbrev pub host_from : HostParts → HostNode
host_from parts = host_with parts.head (backup_of parts.backup)
