-- The numbers of a node that runs apart, work by work.
use Rattle.std.proofs.Common.{ℕ, ◌+◌, ◌-◌, ◌^◌, ◌<◌, ◌≤◌, arith}
use Rattle.std.proofs.lemmas.List.Elements.{All-weaker}
use Rattle.rc_model.specs.Model.{Entry, Setup, Server, Outside, MAX_EVENTS, entries_of, Master, HostNode, coordinator_step, host_step}
use Rattle.rc_model.specs.Model.{master_setup}
use Rattle.rc_model.specs.Coordinator.{Coordinator}
use Rattle.rc_step_laws.specs.Numbers.{HostWithin}
use Rattle.rc_step_laws.proofs.Entries.{body-more, none-within, one-within}
use Rattle.rc_step_laws.proofs.Coordinators.{After, within-more, coordinator-within, new-within}
use Rattle.rc_step_laws.proofs.WorldNumbers.{HostDone, WorkWithin, host-more, host-within, new-host}
use Rattle.rc_step_laws.proofs.Rooms.{room-of, versions-of}
use Rattle.rc_world.specs.HostView.{HostHasRoom}
use Rattle.rc_history.specs.Nodes.{Node, TheOutside, TheCoordinator, TheHost, node_step}
use Rattle.rc_world.specs.NodeNumbers.{GivenWithin, StepWithin, NewNodesAreWithin, StepsStayWithin, MoreWorksAllowMore, NodesHaveRoom}
use Rattle.rc_types.specs.declared.events.NodeWork.{NodeWork}
use Rattle.rc_types.specs.declared.events.NodeWork.TheVariants as work
use Rattle.rc_world.proofs.Rooms.{numbers-from}

pub new-nodes-within : NewNodesAreWithin
new-nodes-within = record {
  outside = tt;
  coordinator = new-within;
  hosts = λ index (setup : Setup). new-host;
}

pub more-allow-more : MoreWorksAllowMore
more-allow-more n m TheOutside more h = tt
more-allow-more n m (TheCoordinator c) more h = within-more more h
more-allow-more n m (TheHost host) more h = host-more more h

-- The outside

outside-steps : (n : ℕ) (given : NodeWork) → GivenWithin n given → StepWithin (n + 1) (node_step TheOutside given)
outside-steps n (work.Ask to body) p =
    record {
      node = tt;
      sent = one-within (n + 1) (record { from = Outside; to = Server to; body = body })
          (body-more (omega arith) body p);
    }
outside-steps n _ p = record { node = tt; sent = none-within (n + 1) }

-- The coordinator

coordinator-steps : (n : ℕ) (c : Coordinator) (given : NodeWork) → After n (coordinator_step c given) →
    StepWithin (n + 1) (node_step (TheCoordinator c) given)
coordinator-steps n c given h = record { node = h.numbers; sent = h.messages }

-- A host

given-within : (n : ℕ) (node : Node) (given : NodeWork) → GivenWithin n given → WorkWithin n given
given-within n node (work.Deliver message) p = p
given-within n node _ p = tt

host-steps : (n : ℕ) (host : HostNode) (given : NodeWork) → HostDone (n + 1) (host_step host given) →
    StepWithin (n + 1) (node_step (TheHost host) given)
host-steps n host given h = record { node = h.host; sent = h.messages }

pub steps-stay-within : StepsStayWithin
steps-stay-within n TheOutside given h p = outside-steps n given p
steps-stay-within n (TheCoordinator c) given h p = coordinator-steps n c given (coordinator-within given h)
steps-stay-within n (TheHost host) given h p =
    host-steps n host given (host-within given h (given-within n (TheHost host) given p))

-- Room

host-has-room : (n : ℕ) (host : HostNode) → n ≤ MAX_EVENTS → HostWithin n host → HostHasRoom host
host-has-room n host few h = record {
  generation = omega (arith, h.generation, few);
  versions = λ (master : Master) is.
      All-weaker (λ (entry : Entry). entry.version ≤ n) (λ (entry : Entry). entry.version < 2 ^ 64 - 1)
      (λ entry p. omega (arith, p, few)) (entries_of master.log) (versions-of (h.master master is));
}

pub nodes-have-room : NodesHaveRoom
nodes-have-room n TheOutside few h = tt
nodes-have-room n (TheCoordinator c) few h = numbers-from c (room-of few h)
nodes-have-room n (TheHost host) few h = host-has-room n host few h
