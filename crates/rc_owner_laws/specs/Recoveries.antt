-- A recovery that was decided can be granted, of every setup and every list of events.
use Rattle.std.specs.Prelude.{◌≡◌, ℕ, true, List, [], ◌∷◌}
use Rattle.rc_types.specs.declared.ids.ServerId.{ServerId}
use Rattle.rc_types.specs.declared.events.Setup.{Setup}
use Rattle.rc_types.specs.declared.events.Event.{Event}
use Rattle.rc_types.specs.declared.faults.Fault.TheVariants.{NoTable}
use Rattle.rc_types.specs.declared.rows.KeyRange.{KeyRange}
use Rattle.rc_types.specs.declared.rows.PlanRow.{PlanRow}
use Rattle.rc_types.specs.declared.rows.Part.{Part}
use Rattle.rc_types.specs.declared.kept.Grant.{Grant}
use Rattle.rc_types.specs.declared.messages.Message.{Message}
use Rattle.rc_types.specs.declared.messages.Body.TheVariants.{Plan, Own}
use Rattle.rc_model.specs.Messages.{from_coordinator}
use Rattle.rc_model.specs.ServerList.{is_up}
use Rattle.rc_model.specs.Coordinator.{Coordinator, refuses_server}
use Rattle.rc_model.specs.Deciding.{own_body, takes_recovered}
use Rattle.rc_model.specs.World.{replay}
use Rattle.rc_model.specs.Headline.{In}
use Rattle.rc_owner_laws.specs.Waiting.{IsTablet}

-- the coordinator after these events
abbrev pub coordinator_of_events : Setup → List Event → Coordinator
coordinator_of_events setup events = (replay setup events).coordinator

-- a Plan was sent that gives the server this part, in the attempt of this number to recover the master
pub record IsPlanned (sent : List Message) (id : ServerId) (number : ℕ) (master : ServerId) (part : Part) : Type 0 where
  pub head : ℕ
  pub rows : List PlanRow
  pub parts : List Part
  pub planned : In (from_coordinator id (Plan head number master rows parts)) sent
  pub among : In part parts

-- an Own of the part's term was sent to the server
pub record IsOwned (sent : List Message) (id : ServerId) (part : Part) : Type 0 where
  pub range : KeyRange
  pub previous : ℕ
  pub attempt : ℕ
  pub owned : In (from_coordinator id (Own range part.term previous attempt)) sent

-- each part of a plan is exactly a tablet of the crashed master, as long as its attempt is the current one and no Own
-- of it was sent
abbrev pub PlannedPartsAreTablets : Type 0
PlannedPartsAreTablets =
    (setup : Setup) (events : List Event) (id : ServerId) (number : ℕ) (master : ServerId) (part : Part) →
    IsPlanned (replay setup events).sent id number master part →
    (coordinator_of_events setup events).current master ≡ number → (IsOwned (replay setup events).sent id part → ⊥) →
    IsTablet (coordinator_of_events setup events).tablets master part

-- so a Recovered of it, by whom it was given to, is answered by its Own, as long as that one is up
pub record IsAnsweredByOwn (c : Coordinator) (id : ServerId) (number term : ℕ) : Type 0 where
  pub grant : Grant
  pub term_is : grant.term ≡ term
  pub owner : grant.owner ≡ id
  pub answer : (takes_recovered c id number term).1 ≡ from_coordinator id (own_body grant) ∷ []

abbrev pub PlannedPartsCanBeGranted : Type 0
PlannedPartsCanBeGranted =
    (setup : Setup) (events : List Event) (id : ServerId) (number : ℕ) (master : ServerId) (part : Part) →
    IsPlanned (replay setup events).sent id number master part →
    (coordinator_of_events setup events).current master ≡ number →
    is_up (coordinator_of_events setup events).servers id ≡ true →
    IsAnsweredByOwn (coordinator_of_events setup events) id number part.term

-- and no server is ever refused for want of a tablet
abbrev pub NoServerLacksATablet : Type 0
NoServerLacksATablet = (setup : Setup) (events : List Event) (id : ServerId) →
    In (refuses_server id NoTable) (replay setup events).sent → ⊥
