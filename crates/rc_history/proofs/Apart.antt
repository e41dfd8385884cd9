-- Steps of nodes that run apart are a history.
use Rattle.std.proofs.Common.{◌≡◌, Bool, true, false, ◌&&◌, cond, inl, inr, List, [], ◌∷◌, ◌++◌, Option, Some, None, refl}
use Rattle.std.proofs.Common.{sym, ap, ◌∙◌, subst, append_assoc}
use Rattle.std.proofs.lemmas.Bool.{and_parts}
use Rattle.std.proofs.lemmas.List.{append-nil, map-append}
use Rattle.std.proofs.lemmas.List.Elements.{filter-append}
use Rattle.std.proofs.lemmas.Grind.{flat_map-append}
use Rattle.rc_model.specs.Model.{Event, Setup, World, NodeName, Job, opening, same_node, job_of, is_possible, is_possible_job}
use Rattle.rc_model.specs.Model.{runs_as_named, replay}
use Rattle.rc_model.specs.World as world
use Rattle.rc_model.proofs.Tests.{true_false}
use Rattle.rc_model.proofs.Ids.{same_node-true}
use Rattle.rc_model.proofs.Replays.{replay_from-push}
use Rattle.rc_history.specs.Nodes.{Node, can_take, node_step, new_node, node_in}
use Rattle.rc_history.specs.Events.{is_legal_from, is_legal, is_for, taken, events_of}
use Rattle.rc_history.specs.Apart.{Step, events_by, sent_by, own_steps, left_at, Follows, TakenApart}
use Rattle.rc_history.specs.Claims.{NodeTakes, ComesOfSteps}
use Rattle.rc_history.proofs.Lists.{push-parts}
use Rattle.rc_history.proofs.Steps.{node_takes}
use Rattle.rc_history.proofs.Longer.{legal_from-append, events_from-append}

-- One step more

pub events_by-push : (steps : List Step) (step : Step) → events_by (steps ++ step ∷ []) ≡ events_by steps ++ step.event ∷ []
events_by-push steps step = map-append (λ (s : Step). s.event) steps (step ∷ [])

pub sent_by-push : (steps : List Step) (step : Step) → sent_by (steps ++ step ∷ []) ≡ sent_by steps ++ step.sent
sent_by-push steps step =
    flat_map-append (λ (s : Step). s.sent) steps (step ∷ []) ∙ ap (λ l. sent_by steps ++ l) (append-nil step.sent)

pub left_at-push : (name : NodeName) (node : Node) (steps : List Step) (step : Step) →
    left_at name node (steps ++ step ∷ []) ≡ cond (same_node step.node name) step.after (left_at name node steps)
left_at-push name node [] step = refl
left_at-push name node (first ∷ steps) step = left_at-push name (cond (same_node first.node name) first.after node) steps step

-- a step more that follows is taken apart too
pub taken_apart-push : {setup : Setup} {steps : List Step} {step : Step} →
    TakenApart setup steps → Follows setup steps step → TakenApart setup (steps ++ step ∷ [])
taken_apart-push {setup} {steps} {step} apart follows earlier later one e =
    elim (push-parts steps earlier later e) [
      | inl same ↦ subst (λ (s : Step). Follows setup earlier s) same.1 (subst (λ (l : List Step). Follows setup l step) same.0 follows)
      | inr same ↦ apart earlier same.0 one same.1
    ]

pub taken_apart-none : {setup : Setup} → TakenApart setup []
taken_apart-none [] later step e = cc
taken_apart-none (first ∷ earlier) later step e = cc

-- The history of steps

pub record IsHistory (setup : Setup) (steps : List Step) : Type 0 where
  pub possible : is_legal setup (events_by steps) ≡ true
  pub nodes : (name : NodeName) → node_in (replay setup (events_by steps)) name ≡ left_at name (new_node setup name) steps
  pub sent : (replay setup (events_by steps)).sent ≡ sent_by steps
  pub taken : (name : NodeName) → events_of setup name (events_by steps) ≡ events_by (own_steps name steps)

new-node : (setup : Setup) (name : NodeName) → node_in (opening setup) name ≡ new_node setup name
new-node setup world.TheOutside = refl
new-node setup world.TheCoordinator = refl
new-node setup (world.TheHost index) = refl

history-none : {setup : Setup} → IsHistory setup []
history-none {setup} = record { possible = refl; nodes = new-node setup; sent = refl; taken = λ name. refl }

both-true : {a b : Bool} → a ≡ true → b ≡ true → (a && (b && true)) ≡ true
both-true {b} p q = ap (λ c. c && (b && true)) p ∙ ap (λ c. c && true) q

-- the world is one event further
after-push : (setup : Setup) (steps : List Step) (step : Step) →
    replay setup (events_by (steps ++ step ∷ [])) ≡ world.step (replay setup (events_by steps)) step.event
after-push setup steps step = ap (replay setup) (events_by-push steps step) ∙ replay_from-push (opening setup) (events_by steps) step.event

given-here : {setup : Setup} {steps : List Step} {step : Step} → IsHistory setup steps → Follows setup steps step →
    job_of (replay setup (events_by steps)).sent step.event ≡ Some (record { node = step.node; work = step.work })
given-here {step} h f = ap (λ l. job_of l step.event) h.sent ∙ f.given

stands-here : {setup : Setup} {steps : List Step} {step : Step} → IsHistory setup steps → Follows setup steps step →
    node_in (replay setup (events_by steps)) step.node ≡ step.before
stands-here {step} h f = h.nodes step.node ∙ sym f.before

takes-here : {setup : Setup} {steps : List Step} {step : Step} → IsHistory setup steps → Follows setup steps step →
    NodeTakes (replay setup (events_by steps)) step.event step.node step.work
takes-here {setup} {steps} {step} h f =
    node_takes (replay setup (events_by steps)) step.event step.node step.work (given-here h f)

possible-here : {setup : Setup} {steps : List Step} {step : Step} → IsHistory setup steps → Follows setup steps step →
    is_possible (replay setup (events_by steps)) step.event ≡ true
possible-here {step} h f = (takes-here h f).possible
    ∙ (ap (λ n. can_take n step.event step.work) (stands-here h f) ∙ f.can)

nodes-push : {setup : Setup} {steps : List Step} {step : Step} → IsHistory setup steps → Follows setup steps step → (name : NodeName) →
    node_in (replay setup (events_by (steps ++ step ∷ []))) name ≡ left_at name (new_node setup name) (steps ++ step ∷ [])
nodes-push {setup} {steps} {step} h f name = ap (λ (v : World). node_in v name) (after-push setup steps step)
    ∙ (by (same_node step.node name) refl ∙ sym (left_at-push name (new_node setup name) steps step))
  where
    by : (b : Bool) → same_node step.node name ≡ b →
        node_in (world.step (replay setup (events_by steps)) step.event) name ≡ cond b step.after (left_at name (new_node setup name) steps)
    by true e =
        subst (λ n. node_in (world.step (replay setup (events_by steps)) step.event) n ≡ step.after) (same_node-true step.node name e)
        ((takes-here h f).state (possible-here h f)
        ∙ (ap (λ n. (node_step n step.work).0) (stands-here h f) ∙ sym f.state))
    by false e = (takes-here h f).others name e ∙ h.nodes name

sent-push : {setup : Setup} {steps : List Step} {step : Step} → IsHistory setup steps → Follows setup steps step →
    (replay setup (events_by (steps ++ step ∷ []))).sent ≡ sent_by (steps ++ step ∷ [])
sent-push {setup} {steps} {step} h f = ap (λ (v : World). v.sent) (after-push setup steps step)
    ∙ ((takes-here h f).sends (possible-here h f)
    ∙ (ap (λ l. l ++ (node_step (node_in (replay setup (events_by steps)) step.node) step.work).1) h.sent
    ∙ (ap (λ n. sent_by steps ++ (node_step n step.work).1) (stands-here h f)
    ∙ (ap (λ l. sent_by steps ++ l) (sym f.sends) ∙ sym (sent_by-push steps step)))))

own-one : (b : Bool) (step : Step) → cond b (step.event ∷ []) [] ≡ events_by (cond b (step ∷ []) [])
own-one true step = refl
own-one false step = refl

taken-here : {setup : Setup} {steps : List Step} {step : Step} → IsHistory setup steps → Follows setup steps step → (name : NodeName) →
    taken name (replay setup (events_by steps)) step.event ≡ events_by (own_steps name (step ∷ []))
taken-here {setup} {steps} {step} h f name =
    let w = replay setup (events_by steps) in
    ap (λ b. cond (b && is_for name (job_of w.sent step.event)) (step.event ∷ []) []) (possible-here h f)
    ∙ (ap (λ job. cond (is_for name job) (step.event ∷ []) []) (given-here h f) ∙ own-one (same_node step.node name) step)

own-push : (name : NodeName) (steps : List Step) (step : Step) →
    events_by (own_steps name (steps ++ step ∷ [])) ≡ events_by (own_steps name steps) ++ events_by (own_steps name (step ∷ []))
own-push name steps step = ap events_by (filter-append (λ (s : Step). same_node s.node name) steps (step ∷ []))
    ∙ map-append (λ (s : Step). s.event) (own_steps name steps) (own_steps name (step ∷ []))

taken-push : {setup : Setup} {steps : List Step} {step : Step} → IsHistory setup steps → Follows setup steps step → (name : NodeName) →
    events_of setup name (events_by (steps ++ step ∷ [])) ≡ events_by (own_steps name (steps ++ step ∷ []))
taken-push {setup} {steps} {step} h f name =
    let w = replay setup (events_by steps) in
    ap (events_of setup name) (events_by-push steps step)
    ∙ (events_from-append name (opening setup) (events_by steps) (step.event ∷ [])
    ∙ (ap (λ l. l ++ (taken name w step.event ++ [])) (h.taken name)
    ∙ (ap (λ l. events_by (own_steps name steps) ++ l) (append-nil (taken name w step.event) ∙ taken-here h f name)
    ∙ sym (own-push name steps step))))

history-push : {setup : Setup} {steps : List Step} {step : Step} → IsHistory setup steps → Follows setup steps step →
    IsHistory setup (steps ++ step ∷ [])
history-push {setup} {steps} {step} h f = record {
  possible = ap (is_legal setup) (events_by-push steps step)
      ∙ (legal_from-append (opening setup) (events_by steps) (step.event ∷ [])
      ∙ both-true h.possible (possible-here h f));
  nodes = nodes-push h f;
  sent = sent-push h f;
  taken = taken-push h f;
}

history-from : {setup : Setup} {earlier : List Step} (later : List Step) → TakenApart setup (earlier ++ later) → IsHistory setup earlier →
    IsHistory setup (earlier ++ later)
history-from {setup} {earlier} [] apart h = subst (IsHistory setup) (sym (append-nil earlier)) h
history-from {setup} {earlier} (step ∷ later) apart h =
    let moved : earlier ++ step ∷ [] ++ later ≡ earlier ++ step ∷ later = append_assoc earlier (step ∷ []) later in
    subst (IsHistory setup) moved (history-from later (subst (TakenApart setup) (sym moved) apart)
    (history-push h (apart earlier later step refl)))

-- steps that are taken apart are a history
pub apart-history : {setup : Setup} {steps : List Step} → TakenApart setup steps → IsHistory setup steps
apart-history {steps} apart = history-from steps apart history-none

-- Each history comes of steps

-- the step that an event is
step_of : World → Event → Job → Step
step_of w event job = record {
  node = job.node;
  event = event;
  work = job.work;
  before = node_in w job.node;
  after = (node_step (node_in w job.node) job.work).0;
  sent = (node_step (node_in w job.node) job.work).1;
}

step-follows : {setup : Setup} {steps : List Step} (event : Event) {job : Job} → IsHistory setup steps →
    job_of (replay setup (events_by steps)).sent event ≡ Some job → is_possible (replay setup (events_by steps)) event ≡ true →
    Follows setup steps (step_of (replay setup (events_by steps)) event job)
unfolding step_of
step-follows {setup} {steps} event {job} h given possible = record {
  given = ap (λ l. job_of l event) (sym h.sent) ∙ given;
  before = h.nodes job.node;
  can = sym (node_takes (replay setup (events_by steps)) event job.node job.work given).possible ∙ possible;
  state = refl;
  sends = refl;
}

step_of-event : (w : World) {event : Event} (job : Job) → (step_of w event job).event ≡ event
unfolding step_of
step_of-event w job = refl

-- a possible event is somebody's
some-job : (w : World) (job : Option Job) → is_possible_job w job ≡ true → (one : Job) × (job ≡ Some one)
some-job w None possible = true_false (sym possible)
some-job w (Some job) possible = (job, refl)

comes-from : {setup : Setup} {steps : List Step} (rest : List Event) → TakenApart setup steps →
    is_legal_from (replay setup (events_by steps)) rest ≡ true → ComesOfSteps setup (events_by steps ++ rest)
comes-from {steps} [] apart legal = record { steps = steps; apart = apart; same = sym (append-nil (events_by steps)) }
comes-from {setup} {steps} (event ∷ rest) apart legal =
    let w = replay setup (events_by steps) in
    let parts = and_parts (is_possible w event) (is_legal_from (world.step w event) rest) legal in
    let job = some-job w (job_of w.sent event)
    (and_parts (runs_as_named w event) (is_possible_job w (job_of w.sent event)) parts.0).1 in
    let step = step_of w event job.0 in
    let named : step.event ≡ event = step_of-event w {event = event} job.0 in
    let pushed : events_by (steps ++ step ∷ []) ≡ events_by steps ++ event ∷ [] =
    events_by-push steps step ∙ ap (λ e. events_by steps ++ e ∷ []) named in
    let after : replay setup (events_by (steps ++ step ∷ [])) ≡ world.step w event =
    after-push setup steps step ∙ ap (world.step w) named in
    let follows = step-follows {setup = setup} {steps = steps} event {job = job.0}
    (apart-history {setup = setup} {steps = steps} apart) job.1 parts.0 in
    subst (ComesOfSteps setup) (ap (λ l. l ++ rest) pushed ∙ append_assoc (events_by steps) (event ∷ []) rest)
    (comes-from {setup = setup} {steps = (steps ++ step ∷ [])} rest
    (taken_apart-push {setup = setup} {steps = steps} {step = step} apart follows)
    (ap (λ (v : World). is_legal_from v rest) after ∙ parts.1))

pub history-comes : (setup : Setup) (events : List Event) → is_legal setup events ≡ true → ComesOfSteps setup events
history-comes setup events legal = comes-from events taken_apart-none legal
