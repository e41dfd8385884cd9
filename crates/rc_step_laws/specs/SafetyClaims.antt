-- The first two clauses of the headline: of worlds in which the facts hold, and of every world.
use Rattle.std.specs.Prelude.{ℕ, List}
use Rattle.rc_types.specs.declared.ids.ServerId.{ServerId}
use Rattle.rc_types.specs.declared.events.Setup.{Setup}
use Rattle.rc_types.specs.declared.events.Event.{Event}
use Rattle.rc_types.specs.declared.messages.Message.{Message}
use Rattle.rc_model.specs.Master.{Master}
use Rattle.rc_model.specs.Coordinator.{Coordinator}
use Rattle.rc_model.specs.Nodes.{HostNode}
use Rattle.rc_model.specs.World.{replay}
use Rattle.rc_model.specs.Headline.{NothingIsMissing, NothingIsInvented}
use Rattle.rc_step_laws.specs.Facts.{Good}

-- where the facts hold, nothing acknowledged is missing from an accepted recovery
abbrev pub FactsKeepWhatWasAcknowledged : Type 0
FactsKeepWhatWasAcknowledged =
    (sent : List Message) (masters : ServerId → Master) (hosts : ℕ → HostNode) (c : Coordinator) →
    Good sent masters hosts c → NothingIsMissing sent

-- and nothing in it is invented
abbrev pub FactsInventNothing : Type 0
FactsInventNothing = (sent : List Message) (masters : ServerId → Master) (hosts : ℕ → HostNode) (c : Coordinator) →
    Good sent masters hosts c → NothingIsInvented sent

-- the facts hold after every list of events, of every setup
abbrev pub FactsAlwaysHold : Type 0
FactsAlwaysHold = (setup : Setup) (events : List Event) →
    Good (replay setup events).sent (replay setup events).masters (replay setup events).hosts
    (replay setup events).coordinator

-- so nothing acknowledged is ever missing from an accepted recovery
abbrev pub NothingIsLost : Type 0
NothingIsLost = (setup : Setup) (events : List Event) → NothingIsMissing (replay setup events).sent

-- and nothing in one is invented
abbrev pub NothingIsMadeUp : Type 0
NothingIsMadeUp = (setup : Setup) (events : List Event) → NothingIsInvented (replay setup events).sent
