-- The headline, and what a client may rely on, of processes that end at any moment. What has left them is a part of
-- what a history sent: each sentence is said of what the steps of such a history sent, and of the acknowledgements,
-- the plans and the answers that have left.
use Rattle.std.specs.Prelude.{◌≡◌, ℕ, false, List, ◌++◌, Option, None}
use Rattle.rc_types.specs.declared.ids.ServerId.{ServerId}
use Rattle.rc_types.specs.declared.ids.Addr.TheVariants.{Server, Outside}
use Rattle.rc_types.specs.declared.events.Setup.{Setup}
use Rattle.rc_types.specs.declared.messages.Message.{Message}
use Rattle.rc_types.specs.declared.messages.Body.TheVariants.{Write, ReadOk}
use Rattle.rc_model.specs.Nodes.{NodeWork}
use Rattle.rc_model.specs.World.{NodeName}
use Rattle.rc_model.specs.Breach.{breach}
use Rattle.rc_model.specs.Recovered.{Ack, Accepted}
use Rattle.rc_model.specs.Headline.{In, HasAcknowledged, WasAccepted, IsThere, IsThereItself}
use Rattle.rc_history.specs.Apart.{Step, events_by, sent_by, TakenApart}
use Rattle.rc_history.specs.Processes.{Processes, Happening, new_processes, MayTake, MayAll, after_all, deed_of}
use Rattle.rc_history.specs.LifeClaims.{HasHistory, WasDone, GoesOn}
use Rattle.rc_promises.specs.Service.{EachIsOneWrite, EachWasSent, FollowsTime, Answer, HasRead, MissesOnlyLater}

-- The headline

-- there is no breach in what the history sent
abbrev pub NoBreachOfProcesses : Type 0
NoBreachOfProcesses = (setup : Setup) (all : Processes) (history : HasHistory setup all) →
    breach (sent_by history.steps) ≡ None

-- a write of which an acknowledgement has left is in each recovery of its master of which a plan has left, at its
-- place, or a greater version of its key under its term is
abbrev pub NothingIsMissingOfProcesses : Type 0
NothingIsMissingOfProcesses = (setup : Setup) (all : Processes) (history : HasHistory setup all) (plan : Accepted) →
    WasAccepted all.left plan → (ack : Ack) → HasAcknowledged all.left plan.master ack →
    IsThere (sent_by history.steps) plan ack

-- and where masters free nothing, it is there itself
abbrev pub StrongOfProcesses : Type 0
StrongOfProcesses = (setup : Setup) (all : Processes) (history : HasHistory setup all) → setup.free ≡ false →
    (plan : Accepted) → WasAccepted all.left plan → (ack : Ack) → HasAcknowledged all.left plan.master ack →
    IsThereItself (sent_by history.steps) plan ack

-- What a client may rely on

-- seen: an acknowledgement has left
abbrev pub OneWriteOfProcesses : Type 0
OneWriteOfProcesses = (setup : Setup) (all : Processes) (history : HasHistory setup all) →
    EachIsOneWrite all.left (sent_by history.steps)

abbrev pub WrittenOfProcesses : Type 0
WrittenOfProcesses = (setup : Setup) (all : Processes) (history : HasHistory setup all) →
    EachWasSent setup all.left (sent_by history.steps)

-- a client had asked the master for the write: something that was done by then has sent it
abbrev pub HadAsked : Processes → ServerId → ℕ → ℕ → Option (List ℕ) → Type 0
HadAsked all m table key value =
    WasDone all.done (record { from = Outside; to = Server m; body = Write table key value })

-- early: an acknowledgement had left by some moment
abbrev pub TimeOfProcesses : Type 0
TimeOfProcesses = (setup : Setup) (early now : Processes) (history : GoesOn setup early now) →
    FollowsTime early.left (HadAsked early) (sent_by (history.steps ++ history.more))

-- a master's answer to a read is among the messages
pub record HasAnswered (messages : List Message) (m : ServerId) (answer : Answer) : Type 0 where
  pub message : Message
  pub among : In message messages
  pub from : message.from ≡ Server m
  pub says : message.body ≡ ReadOk answer.table answer.key answer.version answer.value

-- in the history of these steps the master has answered a read so, after the messages `before`, and the answer misses
-- of what was acknowledged only what it may
pub record IsTrueRead (setup : Setup) (steps : List Step) (m : ServerId) (answer : Answer) : Type 0 where
  pub before : List Message
  pub read : HasRead (sent_by steps) m before answer
  pub misses : MissesOnlyLater setup (events_by steps) m before answer

-- an answer that has left
abbrev pub ReadsOfProcesses : Type 0
ReadsOfProcesses = (setup : Setup) (all : Processes) (history : HasHistory setup all) (m : ServerId) (answer : Answer) →
    HasAnswered all.left m answer → IsTrueRead setup history.steps m answer

-- and in such a history it stands after all that had left when it was made
pub record IsTrueThen (setup : Setup) (all : Processes) (m : ServerId) (answer : Answer) : Type 0 where
  pub steps : List Step
  pub apart : TakenApart setup steps
  pub true_read : IsTrueRead setup steps m answer
  pub left_by_then : (message : Message) → In message all.left → In message true_read.before

-- Whenever an answer is made, whether it ever leaves or not: of all of which an acknowledgement had left by then it
-- misses only what it may.
abbrev pub ReadsWhenMade : Type 0
ReadsWhenMade = (setup : Setup) (happenings : List Happening) → MayAll setup (new_processes setup) happenings →
    let all = after_all setup (new_processes setup) happenings in
    (name : NodeName) (work : NodeWork) → MayTake all name work → (m : ServerId) (answer : Answer) →
    HasAnswered (deed_of name (all.at name).life work).sent m answer → IsTrueThen setup all m answer
