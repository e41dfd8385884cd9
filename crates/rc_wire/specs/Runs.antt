-- What a run of turns has come to, said of its seat.
use Rattle.std.specs.Prelude.{◌≡◌, ℕ, ◌<◌, ◌≤◌, nat_eq, Bool, true, false, ◌&&◌, not, if◌then◌else◌}
use Rattle.std.specs.Prelude.{List, [], ◌∷◌, ◌++◌, take, length, Option, Some, None, slice_get}
use Rattle.rc_types.specs.declared.events.Setup.{Setup}
use Rattle.rc_types.specs.declared.events.Event.{Event}
use Rattle.rc_types.specs.declared.events.Event.TheVariants as event
use Rattle.rc_types.specs.declared.messages.Message.{Message}
use Rattle.rc_model.specs.World.{same_node, node_of}
use Rattle.rc_history.specs.Events.{StartsWith}
use Rattle.rc_types.specs.declared.ids.NodeName.{NodeName}
use Rattle.rc_types.specs.Names.{number_of}
use Rattle.rc_wire.specs.declared.work.Work.{Work}
use Rattle.rc_wire.specs.declared.work.Work.TheVariants as work
use Rattle.rc_wire.specs.SeatView.{SeatData, world_at, node_at}
use Rattle.rc_wire.specs.Works.{event_for, work_in, was_delivered}
use Rattle.rc_wire.specs.declared.steps.Step.{Step}
use Rattle.rc_wire.specs.declared.steps.Step.TheVariants.{Do, Settle}

-- the work of a step that is this seat's
abbrev pub own_work : NodeName → Step → Option Work
own_work name (Do who given) = if nat_eq (number_of who) (number_of name) then Some given else None
own_work name Settle = None

abbrev pub listed : {A : Type 0} → Option A → List A
listed None = []
listed (Some x) = x ∷ []

-- the works of the steps that are this seat's, in order
abbrev pub works_for : NodeName → List Step → List Work
works_for name [] = []
works_for name (step ∷ steps) = listed (own_work name step) ++ works_for name steps

-- no work is the delivery of what a seat holds
abbrev pub is_fetched : Work → Bool
is_fetched work.Fetched = true
is_fetched _ = false

abbrev pub none_fetched : List Step → Bool
none_fetched [] = true
none_fetched (Do who given ∷ steps) = not (is_fetched given) && none_fetched steps
none_fetched (Settle ∷ steps) = none_fetched steps

abbrev pub works_in : List Event → List Work
works_in [] = []
works_in (first ∷ events) = listed (work_in first) ++ works_in events

-- it delivers nothing that these have delivered
abbrev pub is_new : List Event → Event → Bool
is_new done (event.Deliver number) = not (was_delivered done number)
is_new done _ = true

-- nor does one of these, after them and one after another
abbrev pub all_new : List Event → List Event → Bool
all_new done [] = true
all_new done (first ∷ events) = is_new done first && all_new (done ++ first ∷ []) events

-- the seat has committed, after what it had, the events of these works, in order, and else only deliveries, each of a
-- message that it had not delivered. (That they are deliveries to its node, and possible where they stand, is true of
-- each seat: `IsSeat`.)
pub record Does (old : SeatData) (works : List Work) (new : SeatData) : Type 0 where
  pub added : List Event
  pub name : new.name ≡ old.name
  pub seen : StartsWith new.seen old.seen
  pub mine : new.mine ≡ old.mine ++ added
  pub did : works_in added ≡ works
  pub news : all_new old.mine added ≡ true

-- of the messages to its node in what it has seen it has delivered each whose number is below this
abbrev pub DeliveredBelow : Setup → ℕ → SeatData → Type 0
DeliveredBelow setup from seat = (number : ℕ) (message : Message) → number < from →
    slice_get (world_at setup seat).sent number ≡ Some message →
    same_node (node_of message.to) seat.name ≡ true → was_delivered seat.mine number ≡ true

-- and every one
abbrev pub AllDelivered : Setup → SeatData → Type 0
AllDelivered setup seat = (number : ℕ) (message : Message) →
    slice_get (world_at setup seat).sent number ≡ Some message →
    same_node (node_of message.to) seat.name ≡ true → was_delivered seat.mine number ≡ true

-- these works are done, and every message that the seat has seen is delivered
pub record Runs (setup : Setup) (old : SeatData) (works : List Work) (new : SeatData) : Type 0 where
  pub does : Does old works new
  pub delivered : AllDelivered setup new
  pub idle : new.pending ≡ None

-- it has seen and committed at least what it had
pub record Grows (old new : SeatData) : Type 0 where
  pub name : new.name ≡ old.name
  pub seen : StartsWith new.seen old.seen
  pub mine : StartsWith new.mine old.mine

-- since it was `start`, it has done its works among the first steps, and delivered the messages below a number
pub record Progress (setup : Setup) (start : SeatData) (steps : List Step) (at from : ℕ) (now : SeatData) : Type 0 where
  pub does : Does start (works_for start.name (take at steps)) now
  pub within : from ≤ length (world_at setup now).sent
  pub delivered : DeliveredBelow setup from now
  pub idle : now.pending ≡ None

-- the work has been committed, as the event that it is
pub record Takes (setup : Setup) (old : SeatData) (given : Work) (new : SeatData) : Type 0 where
  pub event : Event
  pub is : event_for (node_at setup old) old.held given ≡ Some event
  pub name : new.name ≡ old.name
  pub seen : StartsWith new.seen old.seen
  pub mine : new.mine ≡ old.mine ++ event ∷ []
  pub idle : new.pending ≡ None
