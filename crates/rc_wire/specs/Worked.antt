-- What the nodes of a history have done of a workload.
use Rattle.std.specs.Prelude.{◌≡◌, ◌⊎◌, ℕ, false, List, All}
use Rattle.rc_types.specs.declared.events.Setup.{Setup}
use Rattle.rc_types.specs.declared.events.Event.{Event}
use Rattle.rc_history.specs.Events.{events_of}
use Rattle.rc_wire.specs.Seats.{new_seats}
use Rattle.rc_wire.specs.SeatView.{SeatData}
use Rattle.rc_wire.specs.declared.steps.Step.{Step}
use Rattle.rc_wire.specs.Runs.{works_in, works_for}
use Rattle.rc_wire.specs.SeatCalls.{IsSeat, Covers}
use Rattle.rc_wire.specs.Ends.{all_seated, SomeCannotGoOn}

-- besides deliveries the node of this seat has taken its works of the steps, in order, and nothing else
abbrev pub HasWorked : Setup → List Event → List Step → SeatData → Type 0
HasWorked setup events steps seat = works_in (events_of setup seat.name events) ≡ works_for seat.name steps

-- and so has each of so many nodes: the outside, the coordinator, and the hosts
abbrev pub AllHaveWorked : Setup → List Event → List Step → ℕ → Type 0
AllHaveWorked setup events steps nodes = All (HasWorked setup events steps) (new_seats nodes)

-- a step is of none of so many nodes; or one of them, after what it had done of these events, came to a work that it
-- can't do there, or had seen as many events as there may be. Each of the seats is as a seat is, and what it has done
-- is what its node does in these events
pub record SomeWasStuck (setup : Setup) (events : List Event) (steps : List Step) (nodes : ℕ) : Type 0 where
  pub seats : List SeatData
  pub whole : All (IsSeat setup) seats
  pub covered : All (Covers setup events) seats
  pub stuck : (all_seated (new_seats nodes) steps ≡ false) ⊎ SomeCannotGoOn setup (new_seats nodes) steps seats
