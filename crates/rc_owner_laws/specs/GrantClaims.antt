-- What is claimed of a part whose own entries are all durable, after every list of events of every setup.
use Rattle.std.specs.Prelude.{◌≡◌, ℕ, true, false, List}
use Rattle.rc_types.specs.declared.ids.ServerId.{ServerId}
use Rattle.rc_types.specs.declared.ids.Addr.TheVariants.{Server}
use Rattle.rc_types.specs.declared.events.Setup.{Setup}
use Rattle.rc_types.specs.declared.events.Event.{Event}
use Rattle.rc_types.specs.declared.messages.Body.TheVariants.{Recovered}
use Rattle.rc_model.specs.Messages.{to_coordinator}
use Rattle.rc_model.specs.ServerList.{is_up}
use Rattle.rc_model.specs.Ownership.{PartState, is_complete, owns_term}
use Rattle.rc_model.specs.Master.{durable_replayed}
use Rattle.rc_model.specs.Nodes.{Tick, host_step, is_running_at}
use Rattle.rc_model.specs.World.{replay}
use Rattle.rc_model.specs.Headline.{In}
use Rattle.rc_owner_laws.specs.Recoveries.{IsPlanned, IsAnsweredByOwn}

-- the server runs, isn't deposed and is up by its own list; a part of it is complete, so its own entries are durable,
-- and its term isn't owned yet
pub record AwaitsOwn (setup : Setup) (events : List Event) (m : ServerId) (state : PartState) : Type 0 where
  pub running : is_running_at ((replay setup events).hosts m.index) (Server m) ≡ true
  pub undeposed : ((replay setup events).masters m).deposed ≡ false
  pub listed : is_up ((replay setup events).masters m).known m ≡ true
  pub among : In state ((replay setup events).masters m).ownership.parts
  pub complete : is_complete (durable_replayed ((replay setup events).masters m)) state ≡ true
  pub unowned : owns_term ((replay setup events).masters m).ownership state.part.term ≡ false

-- a Tick of the server sends a Recovered of the part's term, in the attempt of this number to recover the crashed
-- master; and as long as that attempt is the current one and the server is up, its answer is the part's Own
pub record WillBeGranted (setup : Setup) (events : List Event) (m crashed : ServerId) (number term : ℕ) : Type 0 where
  pub told : In (to_coordinator m (Recovered number term))
      (host_step ((replay setup events).hosts m.index) Tick).1
  pub granted : (replay setup events).coordinator.current crashed ≡ number →
      is_up (replay setup events).coordinator.servers m ≡ true →
      IsAnsweredByOwn (replay setup events).coordinator m number term

-- a part that was planned and is complete is told of at each Tick, and granted when that arrives
abbrev pub DurablePartsAreGranted : Type 0
DurablePartsAreGranted = (setup : Setup) (events : List Event) (m crashed : ServerId) (number : ℕ) (state : PartState) →
    IsPlanned (replay setup events).sent m number crashed state.part → AwaitsOwn setup events m state →
    WillBeGranted setup events m crashed number state.part.term
