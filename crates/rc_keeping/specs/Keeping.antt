-- Which works a node keeps, and what it is that was made anew from them.
use Rattle.std.specs.Prelude.{true, ◌≡◌, if◌then◌else◌, List, [], ◌∷◌, filter}
use Rattle.rc_model.specs.Coordinator.{Coordinator}
use Rattle.rc_model.specs.Nodes.{HostNode, coordinator_can, coordinator_step, host_can, host_step}
use Rattle.rc_history.specs.Remade.{host_keeps, coordinator_keeps, SameButMaster}
use Rattle.rc_types.specs.declared.events.NodeWork.{NodeWork}

-- a host after it was given these, one after another, as `NodeState::step` is: what it can't be given changes nothing
abbrev pub host_next : HostNode → NodeWork → HostNode
host_next host given = if host_can host given then (host_step host given).0 else host

abbrev pub host_given : HostNode → List NodeWork → HostNode
host_given host [] = host
host_given host (given ∷ works) = host_given (host_next host given) works

-- and the coordinator
abbrev pub coordinator_next : Coordinator → NodeWork → Coordinator
coordinator_next c given = if coordinator_can given then (coordinator_step c given).0 else c

abbrev pub coordinator_given : Coordinator → List NodeWork → Coordinator
coordinator_given c [] = c
coordinator_given c (given ∷ works) = coordinator_given (coordinator_next c given) works

-- a host that is given again what it keeps is where it was but for its master
abbrev pub HostsComeBack : Type 0
HostsComeBack = (host : HostNode) (works : List NodeWork) →
    SameButMaster (host_given host (filter host_keeps works)) (host_given host works)

-- a host that another one was the same as, but for its master, when it was saved, and that is given again what was kept
-- since, is where that one is, but for its master
abbrev pub SavedHostsComeBack : Type 0
SavedHostsComeBack = (loaded host : HostNode) (works : List NodeWork) → SameButMaster loaded host →
    SameButMaster (host_given loaded (filter host_keeps works)) (host_given host works)

-- the coordinator is where it was
abbrev pub CoordinatorsComeBack : Type 0
CoordinatorsComeBack = (c : Coordinator) (works : List NodeWork) →
    coordinator_given c (filter coordinator_keeps works) ≡ coordinator_given c works

-- a host that is the same but for its master refuses, of what is kept, the same
abbrev pub RefusalsComeBack : Type 0
RefusalsComeBack = (one other : HostNode) (given : NodeWork) → SameButMaster one other → host_keeps given ≡ true →
    host_can one given ≡ host_can other given
