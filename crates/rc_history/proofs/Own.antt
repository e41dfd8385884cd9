-- What a node is given is an event of its own.
use Rattle.std.proofs.Common.{◌≡◌, ℕ, true, ◌&&◌, List, Some, refl, ap, ◌∙◌}
use Rattle.rc_types.specs.declared.messages.Message.{Message}
use Rattle.rc_model.specs.Ids.{same_id}
use Rattle.rc_model.specs.Nodes.{NodeWork, Ask, Deliver, Tick, Stop, Start, HostNode, runs, server_of}
use Rattle.rc_model.specs.World.{NodeName, Job, delivery, job_of}
use Rattle.rc_model.proofs.Ids.{same_id-refl}
use Rattle.rc_history.specs.Nodes.{Node, TheOutside, TheCoordinator, TheHost, name_of, can_take, node_can, event_of}
use Rattle.rc_history.specs.Apart.{WasSent}

-- its job is the node's
pub given-job : (sent : List Message) (node : Node) (number : ℕ) (given : NodeWork) → WasSent sent node number given →
    node_can node given ≡ true →
    job_of sent (event_of node number given) ≡ Some (record { node = name_of node; work = given })
given-job sent node number (Deliver message) was can =
    ap delivery was.0 ∙ ap (λ (name : NodeName). Some (let job : Job = record { node = name; work = Deliver message } in job)) was.1
given-job sent TheOutside number (Ask to body) was can = refl
given-job sent TheOutside number _ was can = cc
given-job sent (TheCoordinator c) number (Ask to body) was can = cc
given-job sent (TheCoordinator c) number Stop was can = cc
given-job sent (TheCoordinator c) number (Start kept) was can = cc
given-job sent (TheCoordinator c) number _ was can = refl
given-job sent (TheHost host) number Tick was can = refl
given-job sent (TheHost host) number Stop was can = refl
given-job sent (TheHost host) number (Start kept) was can = refl
given-job sent (TheHost host) number _ was can = cc

-- a server that runs is the one that runs on its host
runs-itself : (host : HostNode) → runs host ≡ true →
    ((runs host && same_id (server_of host) (server_of host)) && runs host) ≡ true
runs-itself host running =
    ap (λ b. (runs host && b) && runs host) (same_id-refl (server_of host)) ∙ ap (λ b. (b && true) && b) running

-- the server that it names is the node's own, and runs
pub takes-own : (node : Node) (number : ℕ) (given : NodeWork) → node_can node given ≡ true →
    can_take node (event_of node number given) given ≡ true
takes-own (TheHost host) number Tick can = runs-itself host can
takes-own (TheHost host) number Stop can = runs-itself host can
takes-own TheOutside number Stop can = cc
takes-own (TheCoordinator c) number Stop can = cc
takes-own node number _ can = can
