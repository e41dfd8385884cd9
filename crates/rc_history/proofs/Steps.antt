-- An event in a world is a step of the node that it is for.
use Rattle.std.proofs.Common.{◌≡◌, true, false, ◌&&◌, cond, ◌++◌, Option, Some, None, refl, sym, ap, ◌∙◌, subst}
use Rattle.rc_types.specs.declared.events.Event.TheVariants as event
use Rattle.std.specs.Option.{option_map_or}
use Rattle.rc_model.specs.World.{server_named}
use Rattle.rc_model.specs.Nodes.{Tick, Stop, is_running_at}
use Rattle.rc_model.specs.Model.{Server, Event, NodeWork, host_step, World, NodeName, TheOutside, TheCoordinator, TheHost, Job, same_node}
use Rattle.rc_model.specs.Model.{node_done}
use Rattle.rc_model.specs.Model.{job_done, job_of, is_possible, is_possible_job, runs_as_named, step}
use Rattle.rc_model.specs.World as world
use Rattle.rc_model.proofs.Tests.{either}
use Rattle.rc_model.proofs.Tables.{put-same, put-other}
use Rattle.rc_history.specs.Nodes.{is_running_on, node_can, node_step, node_in}
use Rattle.rc_history.specs.Nodes as node
use Rattle.rc_history.specs.Events.{is_for, takes}
use Rattle.rc_history.specs.Claims.{NodeTakes}

-- a world asks the node
can-node : (w : World) (name : NodeName) (work : NodeWork) → world.node_can w name work ≡ node_can (node_in w name) work
can-node w TheOutside work = refl
can-node w TheCoordinator work = refl
can-node w (TheHost index) work = refl

done-state : (w : World) (event : Event) (name : NodeName) (work : NodeWork) →
    node_in (node_done w event name work) name ≡ (node_step (node_in w name) work).0
done-state w event TheOutside work = refl
done-state w event TheCoordinator work = refl
done-state w event (TheHost index) work = ap node.TheHost (put-same w.hosts index)

done-sends : (w : World) (event : Event) (name : NodeName) (work : NodeWork) →
    (node_done w event name work).sent ≡ w.sent ++ (node_step (node_in w name) work).1
done-sends w event TheOutside work = refl
done-sends w event TheCoordinator work = refl
done-sends w event (TheHost index) work = refl

done-others : (w : World) (event : Event) (name : NodeName) (work : NodeWork) (other : NodeName) →
    same_node name other ≡ false → node_in (node_done w event name work) other ≡ node_in w other
done-others w event TheOutside work TheOutside differ = refl
done-others w event TheOutside work TheCoordinator differ = refl
done-others w event TheOutside work (TheHost other) differ = refl
done-others w event TheCoordinator work TheOutside differ = refl
done-others w event TheCoordinator work TheCoordinator differ = cc
done-others w event TheCoordinator work (TheHost other) differ = refl
done-others w event (TheHost index) work TheOutside differ = refl
done-others w event (TheHost index) work TheCoordinator differ = refl
done-others w event (TheHost index) work (TheHost other) differ =
    ap node.TheHost (put-other w.hosts index (host_step (w.hosts index) work).0 differ)

-- what is possible is done
pub step-possible : (w : World) (event : Event) → is_possible w event ≡ true → step w event ≡ job_done w event (job_of w.sent event)
step-possible w event possible = ap (λ b. cond b (job_done w event (job_of w.sent event)) w) possible

-- one job is one node's
same-node : {one other : Job} → Some one ≡ Some other → one.node ≡ other.node
same-node {one} {other} e = let same : one ≡ other = cc in ap (λ (job : Job). job.node) same

-- the server that an event names runs in the world where it runs on the node that takes it
named-node : (w : World) (event : Event) {name : NodeName} {work : NodeWork} →
    job_of w.sent event ≡ Some (record { node = name; work = work }) →
    runs_as_named w event ≡ option_map_or (is_running_on (node_in w name)) (server_named event) true
named-node w (event.Tick (Server id)) given =
    subst (λ (n : NodeName). is_running_at (w.hosts id.index) (Server id) ≡ is_running_on (node_in w n) id)
    (same-node given) refl
named-node w (event.Stop id) given =
    subst (λ (n : NodeName). is_running_at (w.hosts id.index) (Server id) ≡ is_running_on (node_in w n) id)
    (same-node given) refl
named-node w _ given = refl

pub node_takes : (w : World) (event : Event) (name : NodeName) (work : NodeWork) →
    job_of w.sent event ≡ Some (record { node = name; work = work }) → NodeTakes w event name work
node_takes w event name work given =
    let after : is_possible w event ≡ true → step w event ≡ node_done w event name work =
    λ possible. step-possible w event possible ∙ ap (job_done w event) given in
    record {
      possible = ap (λ b. b && is_possible_job w (job_of w.sent event)) (named-node w event given)
          ∙ ap (λ b. option_map_or (is_running_on (node_in w name)) (server_named event) true && b)
          (ap (is_possible_job w) given ∙ can-node w name work);
      state = λ possible. ap (λ (v : World). node_in v name) (after possible) ∙ done-state w event name work;
      sends = λ possible. ap (λ (v : World). v.sent) (after possible) ∙ done-sends w event name work;
      others = λ other differ.
          either (λ (v : World). node_in v other ≡ node_in w other) (is_possible w event) (job_done w event (job_of w.sent event)) w
          (λ _. ap (λ job. node_in (job_done w event job) other) given ∙ done-others w event name work other differ) (λ _. refl);
    }

job-others : (w : World) (event : Event) (job : Option Job) (name : NodeName) →
    is_for name job ≡ false → node_in (job_done w event job) name ≡ node_in w name
job-others w event None name differ = refl
job-others w event (Some job) name differ = done-others w event job.node job.work name differ

-- a node that doesn't take the event is the same after it
pub step-others : (w : World) (event : Event) (name : NodeName) → takes name w event ≡ false → node_in (step w event) name ≡ node_in w name
step-others w event name none =
    either (λ (v : World). node_in v name ≡ node_in w name) (is_possible w event) (job_done w event (job_of w.sent event)) w
    (λ possible. job-others w event (job_of w.sent event) name
    (sym (ap (λ b. b && is_for name (job_of w.sent event)) possible) ∙ none)) (λ _. refl)
