-- What histories obey, whether their nodes stand in one world or run apart.
use Rattle.std.specs.Prelude.{◌≡◌, ℕ, true, false, ◌&&◌, List, ◌++◌, Some, slice_get}
use Rattle.rc_types.specs.declared.events.Setup.{Setup}
use Rattle.rc_types.specs.declared.events.Event.{Event}
use Rattle.rc_types.specs.declared.messages.Message.{Message}
use Rattle.rc_model.specs.Nodes.{NodeWork}
use Rattle.rc_model.specs.World.{World, NodeName, same_node, job_of, is_possible, step, replay_from, replay}
use Rattle.rc_history.specs.Nodes.{can_take, node_step, name_of, new_node, node_in}
use Rattle.rc_history.specs.Events.{is_legal_from, is_legal, events_from, events_of, StartsWith}
use Rattle.rc_history.specs.Apart.{Step, events_by, sent_by, own_steps, left_at, TakenApart}

-- An event in a world is a step of the node that it is for

-- this node takes this work in this event: it does what its rule says, and no other node changes
pub record NodeTakes (world : World) (event : Event) (name : NodeName) (work : NodeWork) : Type 0 where
  pub possible : is_possible world event ≡ can_take (node_in world name) event work
  pub state : is_possible world event ≡ true → node_in (step world event) name ≡ (node_step (node_in world name) work).0
  pub sends : is_possible world event ≡ true →
      (step world event).sent ≡ world.sent ++ (node_step (node_in world name) work).1
  pub others : (other : NodeName) → same_node name other ≡ false →
      node_in (step world event) other ≡ node_in world other

-- whoever an event is for takes it
abbrev pub EventsAreStepsOfNodes : Type 0
EventsAreStepsOfNodes = (world : World) (event : Event) (name : NodeName) (work : NodeWork) →
    job_of world.sent event ≡ Some (record { node = name; work = work }) → NodeTakes world event name work

-- the node that stands under a name is of that name, also after any events
abbrev pub NodesKeepTheirNames : Type 0
NodesKeepTheirNames = (setup : Setup) (events : List Event) (name : NodeName) →
    name_of (node_in (replay setup events) name) ≡ name

-- Longer histories

-- a list is legal where its front part is, and what comes after it is from there on
abbrev pub LegalInParts : Type 0
LegalInParts = (world : World) (events more : List Event) →
    is_legal_from world (events ++ more) ≡ (is_legal_from world events && is_legal_from (replay_from world events) more)

-- events that are possible one after another are all noted
abbrev pub LegalEventsAreNoted : Type 0
LegalEventsAreNoted = (setup : Setup) (events : List Event) → is_legal setup events ≡ true →
    (replay setup events).events ≡ events

-- what a node takes of a list it takes of its front part, and then of what comes after
abbrev pub TakenInParts : Type 0
TakenInParts = (name : NodeName) (world : World) (events more : List Event) →
    events_from name world (events ++ more)
    ≡ events_from name world events ++ events_from name (replay_from world events) more

-- a longer history sends what a shorter one does, first
abbrev pub SentStaysSent : Type 0
SentStaysSent = (setup : Setup) (longer shorter : List Event) → StartsWith longer shorter →
    StartsWith (replay setup longer).sent (replay setup shorter).sent

-- a message keeps its number
abbrev pub NumbersStay : Type 0
NumbersStay = (setup : Setup) (longer shorter : List Event) (number : ℕ) (message : Message) →
    StartsWith longer shorter → slice_get (replay setup shorter).sent number ≡ Some message →
    slice_get (replay setup longer).sent number ≡ Some message

-- a node that has taken nothing more is the same
abbrev pub IdleNodesStay : Type 0
IdleNodesStay = (setup : Setup) (name : NodeName) (longer shorter : List Event) → StartsWith longer shorter →
    events_of setup name longer ≡ events_of setup name shorter →
    node_in (replay setup longer) name ≡ node_in (replay setup shorter) name

-- Steps of nodes that run apart

-- their events are possible one after another
abbrev pub TheirEventsAreLegal : Type 0
TheirEventsAreLegal = (setup : Setup) (steps : List Step) → TakenApart setup steps →
    is_legal setup (events_by steps) ≡ true

-- in the world of these events each node is where its own steps have left it
abbrev pub NodesAreWhereTheyWereLeft : Type 0
NodesAreWhereTheyWereLeft = (setup : Setup) (steps : List Step) → TakenApart setup steps → (name : NodeName) →
    node_in (replay setup (events_by steps)) name ≡ left_at name (new_node setup name) steps

-- and the messages sent are those that the steps sent
abbrev pub SentIsWhatTheySent : Type 0
SentIsWhatTheySent = (setup : Setup) (steps : List Step) → TakenApart setup steps →
    (replay setup (events_by steps)).sent ≡ sent_by steps

-- what a node takes in it are the events of its own steps
abbrev pub TakenIsWhatTheyTook : Type 0
TakenIsWhatTheyTook = (setup : Setup) (steps : List Step) → TakenApart setup steps → (name : NodeName) →
    events_of setup name (events_by steps) ≡ events_by (own_steps name steps)

-- nothing else is a history: each list of events that are possible one after another is that of steps taken apart
pub record ComesOfSteps (setup : Setup) (events : List Event) : Type 0 where
  pub steps : List Step
  pub apart : TakenApart setup steps
  pub same : events_by steps ≡ events

abbrev pub HistoriesComeOfSteps : Type 0
HistoriesComeOfSteps = (setup : Setup) (events : List Event) → is_legal setup events ≡ true → ComesOfSteps setup events
