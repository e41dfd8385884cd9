-- What is claimed of a master's parts: each of its steps keeps them, and says of them only what is so.
use Rattle.std.specs.Prelude.{List, []}
use Rattle.rc_types.specs.declared.ids.ServerId.{ServerId}
use Rattle.rc_types.specs.declared.ids.Addr.{Addr}
use Rattle.rc_types.specs.declared.messages.Message.{Message}
use Rattle.rc_types.specs.declared.messages.Body.{Body}
use Rattle.rc_types.specs.declared.events.MasterSetup.{MasterSetup}
use Rattle.rc_model.specs.Master.{Master, new_master}
use Rattle.rc_model.specs.MasterStep.{master_takes, master_ticks}
use Rattle.rc_owner_laws.specs.Parts.{part_view, GoodParts}
use Rattle.rc_owner_laws.specs.PartMoves.{HasHead, PartsMoved, PartsHear}

-- a step on a message that the master may hear
abbrev pub TakesKeepParts : Type 0
TakesKeepParts = (sent : List Message) (m : ServerId) (master : Master) (from : Addr) (body : Body) →
    HasHead master.log → GoodParts sent m (part_view master) → PartsHear sent m (part_view master) from body →
    PartsMoved sent m master (master_takes master from body)

-- a step on the timer
abbrev pub TicksKeepParts : Type 0
TicksKeepParts = (sent : List Message) (m : ServerId) (master : Master) →
    HasHead master.log → GoodParts sent m (part_view master) → PartsMoved sent m master (master_ticks master)

-- a master at its start, when nothing was sent
abbrev pub NewHasGoodParts : Type 0
NewHasGoodParts = (m : ServerId) (setup : MasterSetup) → GoodParts [] m (part_view (new_master m setup))
