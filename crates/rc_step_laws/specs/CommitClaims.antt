-- What is claimed of the coordinator's list and of its commits, after every list of events of every setup.
use Rattle.std.specs.Prelude.{◌≡◌, ◌⊎◌, ℕ, true, false, List, [], ◌∷◌, ◌++◌}
use Rattle.rc_types.specs.declared.ids.ServerId.{ServerId}
use Rattle.rc_types.specs.declared.events.Setup.{Setup}
use Rattle.rc_types.specs.declared.events.Event.{Event}
use Rattle.rc_model.specs.ServerList.{ServerList, is_up, has_crashed}
use Rattle.rc_types.specs.declared.messages.Message.{Message}
use Rattle.rc_types.specs.declared.messages.Body.TheVariants.{CommitOk}
use Rattle.rc_model.specs.Messages.{from_coordinator}
use Rattle.rc_model.specs.Coordinator.{Coordinator}
use Rattle.rc_model.specs.Nodes.{NodeWork, coordinator_step}
use Rattle.rc_model.specs.World.{replay}
use Rattle.rc_model.specs.Recovered.{least_pair}
use Rattle.rc_model.specs.Headline.{In}
use Rattle.rc_step_laws.specs.WordClaims.{sent_after}

-- the coordinator's list of servers after these events
abbrev pub servers_after : Setup → List Event → ServerList
servers_after setup events = (replay setup events).coordinator.servers

-- who has crashed is never up again
abbrev pub CrashedIsNeverUp : Type 0
CrashedIsNeverUp = (setup : Setup) (events more : List Event) (m : ServerId) →
    has_crashed (servers_after setup events) m ≡ true → is_up (servers_after setup (events ++ more)) m ≡ false

-- a commit of the segment under the epoch was granted to the server
abbrev pub WasCommitted : List Message → ServerId → ℕ → ℕ → Type 0
WasCommitted sent m s e = In (from_coordinator m (CommitOk s e)) sent

-- in each of its steps the coordinator grants only to servers that are up
abbrev pub EachGrantGoesToTheUp : Type 0
EachGrantGoesToTheUp = (c : Coordinator) (work : NodeWork) (m : ServerId) (s e : ℕ) →
    WasCommitted (coordinator_step c work).1 m s e → is_up c.servers m ≡ true

-- what one event newly grants goes to a server that is up at that moment
abbrev pub GrantsGoToTheUp : Type 0
GrantsGoToTheUp = (setup : Setup) (events : List Event) (one : Event) (m : ServerId) (s e : ℕ) →
    WasCommitted (sent_after setup (events ++ one ∷ [])) m s e →
    WasCommitted (sent_after setup events) m s e ⊎ (is_up (servers_after setup events) m ≡ true)

-- so nothing is newly granted to who has crashed
abbrev pub CrashedAreGrantedNoMore : Type 0
CrashedAreGrantedNoMore = (setup : Setup) (events more : List Event) (m : ServerId) (s e : ℕ) →
    has_crashed (servers_after setup events) m ≡ true → WasCommitted (sent_after setup (events ++ more)) m s e →
    WasCommitted (sent_after setup events) m s e

-- the least pair that the coordinator keeps of a master is the greatest pair of the CommitOks that were sent to it
abbrev pub LeastIsTheGreatestCommit : Type 0
LeastIsTheGreatestCommit = (setup : Setup) (events : List Event) (m : ServerId) →
    (replay setup events).coordinator.least m ≡ least_pair (sent_after setup events) m
