-- What each step of the coordinator keeps.
use Rattle.std.specs.Prelude.{ℕ, List, []}
use Rattle.rc_types.specs.declared.ids.ServerId.{ServerId}
use Rattle.rc_types.specs.declared.ids.Addr.{Addr}
use Rattle.rc_types.specs.declared.messages.Message.{Message}
use Rattle.rc_types.specs.declared.messages.Body.{Body}
use Rattle.rc_model.specs.Coordinator.{Coordinator, new_coordinator, suspects}
use Rattle.rc_model.specs.Deciding.{decides}
use Rattle.rc_model.specs.CoordinatorStep.{creates, splits, coordinator_ticks, coordinator_takes}
use Rattle.rc_step_laws.specs.Facts.{GoodCoordinator}
use Rattle.rc_step_laws.specs.Moves.{CoordinatorMoved, CoordinatorMayHear}

abbrev pub TakesKeep : Type 0
TakesKeep = (sent : List Message) (c : Coordinator) → GoodCoordinator sent c → (from : Addr) (body : Body) →
    CoordinatorMayHear sent from body → CoordinatorMoved sent c (coordinator_takes c from body)

abbrev pub SuspicionsKeep : Type 0
SuspicionsKeep = (sent : List Message) (c : Coordinator) → GoodCoordinator sent c → (id : ServerId) →
    CoordinatorMoved sent c (suspects c id)

abbrev pub DecisionsKeep : Type 0
DecisionsKeep = (sent : List Message) (c : Coordinator) → GoodCoordinator sent c → (master : ServerId) →
    CoordinatorMoved sent c (decides c master)

abbrev pub NewTablesKeep : Type 0
NewTablesKeep = (sent : List Message) (c : Coordinator) → GoodCoordinator sent c → (table : ℕ) (owner : ServerId) →
    CoordinatorMoved sent c (creates c table owner)

abbrev pub SplitsKeep : Type 0
SplitsKeep = (sent : List Message) (c : Coordinator) → GoodCoordinator sent c → (table at : ℕ) →
    CoordinatorMoved sent c (splits c table at)

abbrev pub TicksKeep : Type 0
TicksKeep = (sent : List Message) (c : Coordinator) → GoodCoordinator sent c →
    CoordinatorMoved sent c (c, coordinator_ticks c)

-- and before the first step they hold
abbrev pub NewIsGood : Type 0
NewIsGood = GoodCoordinator [] new_coordinator
