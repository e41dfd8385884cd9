-- The numbers of a world's nodes suffice for one more step.
use Rattle.std.proofs.Common.{ℕ, ◌≤◌, List, length, sym, subst}
use Rattle.rc_model.specs.Model.{MAX_EVENTS, Setup, Event, HostNode, World, TheOutside, TheCoordinator, TheHost, replay}
use Rattle.rc_model.specs.Coordinator.{Coordinator}
use Rattle.rc_step_laws.specs.NumberClaims.{HasRoom}
use Rattle.rc_step_laws.proofs.Rooms.{coordinator-has-room, generations-have-room, versions-have-room}
use Rattle.rc_coordinator.specs.Steps.{HasNumbers}
use Rattle.rc_world.specs.HostView.{HostHasRoom}
use Rattle.rc_world.specs.WorldView.{IsSame, WorldHasRoom}
use Rattle.rc_world.specs.NodeNumbers.{HistoriesLeaveRoom}

pub numbers-from : (c : Coordinator) → HasRoom c → HasNumbers c
numbers-from c room = record { versions = room.versions; attempts = room.attempts; terms = room.terms }

host-room : (setup : Setup) (events : List Event) → length events ≤ MAX_EVENTS → (index : ℕ) →
    HostHasRoom ((replay setup events).hosts index)
host-room setup events few index = record {
  generation = generations-have-room setup events few index;
  versions = versions-have-room setup events few index;
}

pub has_room : (setup : Setup) (events : List Event) (world : World) → IsSame world (replay setup events) →
    length events ≤ MAX_EVENTS → WorldHasRoom world
has_room setup events world same few = record {
  coordinator = subst (λ (c : Coordinator). HasNumbers c) (sym same.coordinator)
      (numbers-from (replay setup events).coordinator (coordinator-has-room setup events few));
  hosts = λ index. subst (λ (hosts : ℕ → HostNode). HostHasRoom (hosts index)) (sym same.hosts) (host-room setup events few index);
}

-- and so do those of each node by itself
pub histories-leave-room : HistoriesLeaveRoom
histories-leave-room setup events TheOutside few = tt
histories-leave-room setup events TheCoordinator few =
    numbers-from (replay setup events).coordinator (coordinator-has-room setup events few)
histories-leave-room setup events (TheHost index) few = host-room setup events few index
