-- What a node was given in a history: its own works, each with the message that it delivers. They determine its state.
use Rattle.std.specs.Prelude.{if◌then◌else◌, List, [], ◌∷◌, ◌++◌, Option, Some, None}
use Rattle.rc_types.specs.declared.events.Event.{Event}
use Rattle.rc_model.specs.Coordinator.{Coordinator}
use Rattle.rc_model.specs.Nodes.{NodeWork, HostNode, coordinator_step, host_step}
use Rattle.rc_model.specs.World.{World, NodeName, same_node, Job, job_of, is_possible, step}

-- the work of a job, where the job is this node's
abbrev pub work_if_for : NodeName → Option Job → List NodeWork
work_if_for node None = []
work_if_for node (Some job) = if same_node job.node node then job.work ∷ [] else []

-- the work that a node is given by an event: none where the event isn't possible, or is another node's
abbrev pub work_in : NodeName → World → Event → List NodeWork
work_in node world event = if is_possible world event then work_if_for node (job_of world.sent event) else []

-- the works that a node is given by these events, from a world on
abbrev pub works_of : NodeName → World → List Event → List NodeWork
works_of node world [] = []
works_of node world (event ∷ events) = work_in node world event ++ works_of node (step world event) events

-- a host after these works, and the coordinator
abbrev pub host_after : HostNode → List NodeWork → HostNode
host_after host [] = host
host_after host (work ∷ works) = host_after (host_step host work).0 works

abbrev pub coordinator_after : Coordinator → List NodeWork → Coordinator
coordinator_after c [] = c
coordinator_after c (work ∷ works) = coordinator_after (coordinator_step c work).0 works
