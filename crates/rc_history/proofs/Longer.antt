-- Longer histories.
use Rattle.std.proofs.Common.{◌≡◌, ℕ, Bool, true, false, ◌&&◌, cond, List, [], ◌∷◌, ◌++◌, Option, Some, None, slice_get}
use Rattle.std.proofs.Common.{refl, sym, ap, ◌∙◌, subst, append_assoc}
use Rattle.std.proofs.lemmas.Bool.{and_parts}
use Rattle.std.proofs.lemmas.List.{append-nil, append_cancel_left}
use Rattle.rc_model.specs.Model.{Event, Setup, Message, World, NodeName, Job, opening, same_node, job_of, is_possible, step, replay_from}
use Rattle.rc_model.specs.Model.{replay}
use Rattle.rc_model.proofs.Ids.{same_node-true}
use Rattle.rc_model.proofs.Replays.{noted, sent_more-step}
use Rattle.rc_history.specs.Nodes.{node_in}
use Rattle.rc_history.specs.Events.{is_legal_from, is_legal, is_for, takes, taken, events_from, events_of, StartsWith}
use Rattle.rc_history.proofs.Lists.{starts-same, starts-through, starts-get}
use Rattle.rc_history.proofs.Steps.{step-others}

-- a replay goes on where its front part ends
pub replay_from-append : (w : World) (events more : List Event) → replay_from w (events ++ more) ≡ replay_from (replay_from w events) more
replay_from-append w [] more = refl
replay_from-append w (event ∷ events) more = replay_from-append (step w event) events more

and-assoc : (a b c : Bool) → (a && (b && c)) ≡ ((a && b) && c)
and-assoc true b c = refl
and-assoc false b c = refl

pub legal_from-append : (w : World) (events more : List Event) →
    is_legal_from w (events ++ more) ≡ (is_legal_from w events && is_legal_from (replay_from w events) more)
legal_from-append w [] more = refl
legal_from-append w (event ∷ events) more =
    ap (λ b. is_possible w event && b) (legal_from-append (step w event) events more)
    ∙ and-assoc (is_possible w event) (is_legal_from (step w event) events) (is_legal_from (replay_from (step w event) events) more)

pub events_from-append : (name : NodeName) (w : World) (events more : List Event) →
    events_from name w (events ++ more) ≡ events_from name w events ++ events_from name (replay_from w events) more
events_from-append name w [] more = refl
events_from-append name w (event ∷ events) more =
    ap (λ l. taken name w event ++ l) (events_from-append name (step w event) events more)
    ∙ sym (append_assoc (taken name w event) (events_from name (step w event) events)
    (events_from name (replay_from (step w event) events) more))

-- the events of a legal list are noted, one after another
noted_from : (w : World) (events : List Event) → is_legal_from w events ≡ true → (replay_from w events).events ≡ w.events ++ events
noted_from w [] legal = sym (append-nil w.events)
noted_from w (event ∷ events) legal =
    let parts = and_parts (is_possible w event) (is_legal_from (step w event) events) legal in
    let first : (step w event).events ≡ w.events ++ event ∷ [] =
    noted w event ∙ ap (λ b. cond b (w.events ++ event ∷ []) w.events) parts.0 in
    noted_from (step w event) events parts.1 ∙ (ap (λ l. l ++ events) first ∙ append_assoc w.events (event ∷ []) events)

pub legal-noted : (setup : Setup) (events : List Event) → is_legal setup events ≡ true → (replay setup events).events ≡ events
legal-noted setup events legal = noted_from (opening setup) events legal

-- a job is one node's
one-node : (name other : NodeName) (job : Option Job) → is_for name job ≡ true → same_node name other ≡ false → is_for other job ≡ false
one-node name other None own differ = refl
one-node name other (Some job) own differ = ap (λ n. same_node n other) (same_node-true job.node name own) ∙ differ

-- what was sent stays sent
pub sent-starts : (w : World) (events : List Event) → StartsWith (replay_from w events).sent w.sent
sent-starts w [] = starts-same {xs = w.sent}
sent-starts w (event ∷ events) =
    let more = sent_more-step w event in
    starts-through {xs = (replay_from (step w event) events).sent} {ys = (step w event).sent} {zs = w.sent}
    (sent-starts (step w event) events)
    (record { rest = more.0; same = more.1 })

pub longer-sent : (setup : Setup) (longer shorter : List Event) → StartsWith longer shorter →
    StartsWith (replay setup longer).sent (replay setup shorter).sent
longer-sent setup longer shorter starts =
    subst (λ (events : List Event). StartsWith (replay setup events).sent (replay setup shorter).sent) (sym starts.same)
    (subst (λ (w : World). StartsWith w.sent (replay setup shorter).sent) (sym (replay_from-append (opening setup) shorter starts.rest))
    (sent-starts (replay setup shorter) starts.rest))

-- a message keeps its number
pub longer-number : (setup : Setup) (longer shorter : List Event) (number : ℕ) (message : Message) → StartsWith longer shorter →
    slice_get (replay setup shorter).sent number ≡ Some message → slice_get (replay setup longer).sent number ≡ Some message
longer-number setup longer shorter number message starts found =
    starts-get number (longer-sent setup longer shorter starts) found

none-first : (name : NodeName) (w : World) (event : Event) {rest : List Event} → taken name w event ++ rest ≡ [] →
    (takes name w event ≡ false) × (rest ≡ [])
none-first name w event {rest} none = by (takes name w event) none
  where
    by : (b : Bool) → cond b (event ∷ []) [] ++ rest ≡ [] → (b ≡ false) × (rest ≡ [])
    by true e = cc
    by false e = (refl, e)

-- a node that takes none of the events is the same after them
pub node-idle : (name : NodeName) (w : World) (events : List Event) → events_from name w events ≡ [] →
    node_in (replay_from w events) name ≡ node_in w name
node-idle name w [] none = refl
node-idle name w (event ∷ events) none =
    let parts = none-first name w event none in
    node-idle name (step w event) events parts.1 ∙ step-others w event name parts.0

-- a node that takes nothing more is the same
pub node_same : (setup : Setup) (name : NodeName) (seen rest : List Event) →
    events_of setup name (seen ++ rest) ≡ events_of setup name seen →
    node_in (replay setup (seen ++ rest)) name ≡ node_in (replay setup seen) name
node_same setup name seen rest same =
    let none : events_from name (replay setup seen) rest ≡ [] =
    append_cancel_left (events_of setup name seen) (events_from name (replay setup seen) rest) []
    (sym (events_from-append name (opening setup) seen rest) ∙ (same ∙ sym (append-nil (events_of setup name seen)))) in
    ap (λ (w : World). node_in w name) (replay_from-append (opening setup) seen rest) ∙ node-idle name (replay setup seen) rest none

pub node-stays : (setup : Setup) (name : NodeName) (longer shorter : List Event) → StartsWith longer shorter →
    events_of setup name longer ≡ events_of setup name shorter → node_in (replay setup longer) name ≡ node_in (replay setup shorter) name
node-stays setup name longer shorter starts same =
    ap (λ (events : List Event). node_in (replay setup events) name) starts.same
    ∙ node_same setup name shorter starts.rest (sym (ap (events_of setup name) starts.same) ∙ same)

-- One event more

-- the node that takes it has taken it too
pub events_of-own : (setup : Setup) (name : NodeName) (events : List Event) (event : Event) →
    is_possible (replay setup events) event ≡ true → is_for name (job_of (replay setup events).sent event) ≡ true →
    events_of setup name (events ++ event ∷ []) ≡ events_of setup name events ++ event ∷ []
events_of-own setup name events event possible own = events_from-append name (opening setup) events (event ∷ [])
    ∙ (ap (λ b. events_of setup name events ++ (cond (b && is_for name (job_of (replay setup events).sent event)) (event ∷ []) [] ++ []))
    possible ∙ ap (λ b. events_of setup name events ++ (cond b (event ∷ []) [] ++ [])) own)

-- and no other node has
pub events_of-other : (setup : Setup) (name other : NodeName) (events : List Event) (event : Event) →
    is_for name (job_of (replay setup events).sent event) ≡ true → same_node name other ≡ false →
    events_of setup other (events ++ event ∷ []) ≡ events_of setup other events
events_of-other setup name other events event own differ = events_from-append other (opening setup) events (event ∷ [])
    ∙ (ap (λ b. events_of setup other events ++ (cond (is_possible (replay setup events) event && b) (event ∷ []) [] ++ []))
    (one-node name other (job_of (replay setup events).sent event) own differ)
    ∙ (ap (λ l. events_of setup other events ++ l) (nothing (is_possible (replay setup events) event) event)
    ∙ append-nil (events_of setup other events)))
  where
    nothing : (b : Bool) (e : Event) → cond (b && false) (e ∷ []) [] ++ [] ≡ []
    nothing true e = refl
    nothing false e = refl
