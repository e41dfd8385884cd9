-- A step depends on the nodes and on what was sent, and on nothing else of a world.
use Rattle.std.specs.Option.{option_map_or}
use Rattle.std.proofs.Common.{◌≡◌, ℕ, true, ◌&&◌, List, [], ◌∷◌, ◌++◌, Option, Some, None, refl, sym, ap, subst, ◌∙◌}
use Rattle.rc_model.specs.Model.{Setup, Event, Message, put, HostNode, NodeWork, outside_sends, coordinator_step, host_can, host_step}
use Rattle.rc_model.specs.Model.{World}
use Rattle.rc_model.specs.Model.{NodeName, TheOutside, TheCoordinator, TheHost, Job, job_of, node_can, is_possible, is_possible_job}
use Rattle.rc_model.specs.Model.{node_done, job_done, step, replay, opening, is_running_at, runs_as_named, server_named, ServerId, Server}
use Rattle.rc_model.specs.Coordinator.{Coordinator}
use Rattle.rc_model.proofs.Replays.{replay_from-push}
use Rattle.rc_world.specs.WorldView.{IsSame}

can-same : (one other : World) → IsSame one other → (node : NodeName) (work : NodeWork) → node_can one node work ≡ node_can other node work
can-same one other same TheOutside work = refl
can-same one other same TheCoordinator work = refl
can-same one other same (TheHost index) work = ap (λ (hosts : ℕ → HostNode). host_can (hosts index) work) same.hosts

job-same : (one other : World) → IsSame one other → (job : Option Job) → is_possible_job one job ≡ is_possible_job other job
job-same one other same None = refl
job-same one other same (Some job) = can-same one other same job.node job.work

-- the same is possible
pub possible-same : (one other : World) (event : Event) → IsSame one other → is_possible one event ≡ is_possible other event
possible-same one other event same =
    ap (λ (hosts : ℕ → HostNode). option_map_or (λ (id : ServerId). is_running_at (hosts id.index) (Server id)) (server_named event) true
    && is_possible_job one (job_of one.sent event)) same.hosts
    ∙ ap (λ b. runs_as_named other event && b) (job-same one other same (job_of one.sent event)
    ∙ ap (λ (sent : List Message). is_possible_job other (job_of sent event)) same.sent)

coordinator-sent : (a b : List Message) (c d : Coordinator) (work : NodeWork) → a ≡ b → c ≡ d →
    a ++ (coordinator_step c work).1 ≡ b ++ (coordinator_step d work).1
coordinator-sent a b c d work e f =
    ap (λ (sent : List Message). sent ++ (coordinator_step c work).1) e ∙ ap (λ (now : Coordinator). b ++ (coordinator_step now work).1) f

host-sent : (a b : List Message) (index : ℕ) (g h : ℕ → HostNode) (work : NodeWork) → a ≡ b → g ≡ h →
    a ++ (host_step (g index) work).1 ≡ b ++ (host_step (h index) work).1
host-sent a b index g h work e f =
    ap (λ (sent : List Message). sent ++ (host_step (g index) work).1) e ∙
    ap (λ (hosts : ℕ → HostNode). b ++ (host_step (hosts index) work).1) f

node-same : (one other : World) (event : Event) → IsSame one other → (node : NodeName) (work : NodeWork) →
    IsSame (node_done one event node work) (node_done other event node work)
node-same one other event same TheOutside work = record {
  sent = ap (λ (sent : List Message). sent ++ outside_sends work) same.sent;
  hosts = same.hosts;
  coordinator = same.coordinator;
}
node-same one other event same TheCoordinator work = record {
  sent = coordinator-sent one.sent other.sent one.coordinator other.coordinator work same.sent same.coordinator;
  hosts = same.hosts;
  coordinator = ap (λ (c : Coordinator). (coordinator_step c work).0) same.coordinator;
}
node-same one other event same (TheHost index) work = record {
  sent = host-sent one.sent other.sent index one.hosts other.hosts work same.sent same.hosts;
  hosts = ap (λ (hosts : ℕ → HostNode). put hosts index (host_step (hosts index) work).0) same.hosts;
  coordinator = same.coordinator;
}

done-same : (one other : World) (event : Event) → IsSame one other → (job : Option Job) →
    IsSame (job_done one event job) (job_done other event job)
done-same one other event same None = same
done-same one other event same (Some job) = node-same one other event same job.node job.work

pub same-then : (one other third : World) → IsSame one other → IsSame other third → IsSame one third
same-then one other third h k = record {
  sent = h.sent ∙ k.sent;
  hosts = h.hosts ∙ k.hosts;
  coordinator = h.coordinator ∙ k.coordinator;
}

step-possible : (world : World) (event : Event) → is_possible world event ≡ true →
    step world event ≡ job_done world event (job_of world.sent event)
step-possible world event possible = rw possible refl

-- nodes that were what the events led to, and have taken one event more, are what these lead to
pub goes_on : (setup : Setup) (events : List Event) (event : Event) (old new : World) → IsSame old (replay setup events) →
    is_possible old event ≡ true → IsSame new (job_done old event (job_of old.sent event)) →
    IsSame new (replay setup (events ++ event ∷ []))
goes_on setup events event old new same possible done =
    let now : World = replay setup events in
    let so : is_possible now event ≡ true = sym (possible-same old now event same) ∙ possible in
    let jobs : job_of old.sent event ≡ job_of now.sent event = ap (λ (sent : List Message). job_of sent event) same.sent in
    let one : IsSame (job_done old event (job_of old.sent event)) (job_done now event (job_of old.sent event)) =
    done-same old now event same (job_of old.sent event) in
    let two : job_done now event (job_of old.sent event) ≡ step now event =
    ap (λ (job : Option Job). job_done now event job) jobs ∙ sym (step-possible now event so) in
    let three : step now event ≡ replay setup (events ++ event ∷ []) = sym (replay_from-push (opening setup) events event) in
    subst (λ (world : World). IsSame new world) (two ∙ three)
    (same-then new (job_done old event (job_of old.sent event)) (job_done now event (job_of old.sent event)) done
    one)
