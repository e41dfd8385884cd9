-- What to keep of a node's works, so that it can be made anew from them.
use Rattle.std.specs.Prelude.{Bool, true, false, ◌≡◌, List, filter, None}
use Rattle.rc_types.specs.declared.messages.Body.{Body}
use Rattle.rc_types.specs.declared.messages.Body.TheVariants.{Fetch}
use Rattle.rc_model.specs.Coordinator.{Coordinator}
use Rattle.rc_model.specs.Nodes.{NodeWork, Deliver, Tick, Stop, Start, HostNode, runs, is_for_backup}
use Rattle.rc_model.specs.Works.{host_after, coordinator_after}
use Rattle.rc_model.specs.World.{NodeName, TheOutside, TheCoordinator, TheHost}

-- a message that its backup takes; a Fetch changes nothing there
abbrev pub changes_backup : Body → Bool
changes_backup (Fetch attempt master seg len part) = false
changes_backup body = is_for_backup body

-- of a host: its starts and stops, and what its backup took
abbrev pub host_keeps : NodeWork → Bool
host_keeps (Deliver message) = changes_backup message.body
host_keeps Stop = true
host_keeps (Start kept) = true
host_keeps _ = false

-- of the coordinator: all but timers
abbrev pub coordinator_keeps : NodeWork → Bool
coordinator_keeps Tick = false
coordinator_keeps _ = true

-- of a node
abbrev pub keeps : NodeName → NodeWork → Bool
keeps TheOutside work = false
keeps TheCoordinator work = coordinator_keeps work
keeps (TheHost index) work = host_keeps work

-- the host without its master, as a stop leaves it
abbrev pub stopped : HostNode → HostNode
stopped host = record host { master = None }

-- the hosts are the same but for their masters, and both run or neither does
pub record SameButMaster (one other : HostNode) : Type 0 where
  pub runs : runs one ≡ runs other
  pub rest : stopped one ≡ stopped other

-- a host that is given again only what is to be kept is the same but for its master
abbrev pub HostsCanBeRemade : Type 0
HostsCanBeRemade = (host : HostNode) (works : List NodeWork) →
    SameButMaster (host_after host (filter host_keeps works)) (host_after host works)

-- and the coordinator is the same
abbrev pub CoordinatorCanBeRemade : Type 0
CoordinatorCanBeRemade = (c : Coordinator) (works : List NodeWork) →
    coordinator_after c (filter coordinator_keeps works) ≡ coordinator_after c works
