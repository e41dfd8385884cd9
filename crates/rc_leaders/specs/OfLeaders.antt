-- The headline, what a client may rely on, and that this is linearizable, of coordinators that take over from one
-- another: of all that has left them and the other nodes. Each is what is said of processes, of the one life that they
-- are.
use Rattle.std.specs.Prelude.{◌≡◌, ℕ, false, List, ◌++◌, None, Some, slice_get}
use Rattle.rc_types.specs.declared.ids.ServerId.{ServerId}
use Rattle.rc_types.specs.declared.events.Setup.{Setup}
use Rattle.rc_types.specs.declared.messages.Message.{Message}
use Rattle.rc_model.specs.Breach.{breach}
use Rattle.rc_model.specs.Recovered.{Ack, Accepted}
use Rattle.rc_model.specs.Headline.{HasAcknowledged, WasAccepted, IsThere, IsThereItself}
use Rattle.rc_history.specs.Apart.{sent_by}
use Rattle.rc_history.specs.Processes.{Leaves}
use Rattle.rc_history.specs.LifeClaims.{HasHistory, GoesOn}
use Rattle.rc_promises.specs.Service.{EachIsOneWrite, EachWasSent, FollowsTime, Answer}
use Rattle.rc_promises.specs.OfProcesses.{HadAsked, HasAnswered, IsTrueRead}
use Rattle.rc_promises.specs.Linearizable.{HasReplicas}
use Rattle.rc_promises.specs.Linearized.{AreLinearized}
use Rattle.rc_promises.specs.LinearProcesses.{IsOn, WasAskedFor, IsResponseOf, IsOfStep}
use Rattle.rc_leaders.specs.Leaders.{Event, new_cluster, MayComeAll}
use Rattle.rc_leaders.specs.Claims.{cluster_of, happenings_of, lives_of}

-- all messages that have ever left
abbrev pub left_by : Setup → List Event → List Message
left_by setup events = (cluster_of setup events).nodes.left

-- these events may come
abbrev pub MayBe : Setup → List Event → Type 0
MayBe setup events = MayComeAll setup (new_cluster setup) events

-- The headline: all that has left was sent in a history without a breach. A write of which an acknowledgement has left
-- is in each recovery of its master of which a plan has left, at its place, or a greater version of its key under its
-- term is; where masters free nothing, it is there itself.
pub record HeadlineHolds (setup : Setup) (events : List Event) : Type 0 where
  pub history : HasHistory setup (lives_of setup events)
  pub no_breach : breach (sent_by history.steps) ≡ None
  pub there : (plan : Accepted) → WasAccepted (left_by setup events) plan → (ack : Ack) →
      HasAcknowledged (left_by setup events) plan.master ack → IsThere (sent_by history.steps) plan ack
  pub strong : setup.free ≡ false → (plan : Accepted) → WasAccepted (left_by setup events) plan → (ack : Ack) →
      HasAcknowledged (left_by setup events) plan.master ack → IsThereItself (sent_by history.steps) plan ack

abbrev pub HeadlineOfLeaders : Type 0
HeadlineOfLeaders = (setup : Setup) (events : List Event) → MayBe setup events → HeadlineHolds setup events

-- What a client may rely on
pub record IsServed (setup : Setup) (events : List Event) : Type 0 where
  pub history : HasHistory setup (lives_of setup events)
  pub once : EachIsOneWrite (left_by setup events) (sent_by history.steps)
  pub written : EachWasSent setup (left_by setup events) (sent_by history.steps)
  pub reads : (m : ServerId) (answer : Answer) → HasAnswered (left_by setup events) m answer →
      IsTrueRead setup history.steps m answer

abbrev pub ServedByLeaders : Type 0
ServedByLeaders = (setup : Setup) (events : List Event) → MayBe setup events → IsServed setup events

-- early: an acknowledgement had left after the first events
pub record IsInTime (setup : Setup) (events more : List Event) : Type 0 where
  pub history : GoesOn setup (lives_of setup events) (lives_of setup (events ++ more))
  pub time : FollowsTime (left_by setup events) (HadAsked (lives_of setup events))
      (sent_by (history.steps ++ history.more))

abbrev pub TimeOfLeaders : Type 0
TimeOfLeaders = (setup : Setup) (events more : List Event) → MayBe setup (events ++ more) → IsInTime setup events more

-- Linearizable: a moment is that of a happening in their one life
abbrev pub LinearizableOfLeaders : Type 0
LinearizableOfLeaders = (setup : Setup) (events : List Event) → MayBe setup events → HasReplicas setup →
    (table key : ℕ) →
    AreLinearized (IsOn setup (happenings_of setup events) table key) (WasAskedFor setup (happenings_of setup events))

-- each acknowledgement that has left is the response of one of these writes
abbrev pub EachWriteOfLeaders : Type 0
EachWriteOfLeaders = (setup : Setup) (events : List Event) → MayBe setup events → HasReplicas setup →
    (m : ServerId) (ack : Ack) (acknowledged : HasAcknowledged (lives_of setup events).left m ack) →
    IsResponseOf setup (happenings_of setup events) m ack acknowledged.message

-- and each message that leaves was sent by a step that was done before
abbrev pub WhatLeavesThemWasDone : Type 0
WhatLeavesThemWasDone = (setup : Setup) (events : List Event) → MayBe setup events → (number : ℕ) (message : Message) →
    slice_get (happenings_of setup events) number ≡ Some (Leaves message) →
    IsOfStep setup (happenings_of setup events) number message
