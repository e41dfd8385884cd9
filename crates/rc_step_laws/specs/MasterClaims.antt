-- What is claimed of a master: each of its steps keeps the facts, and says only what a master may say.
use Rattle.std.specs.Prelude.{List, []}
use Rattle.rc_types.specs.declared.ids.ServerId.{ServerId}
use Rattle.rc_types.specs.declared.ids.Addr.{Addr}
use Rattle.rc_types.specs.declared.messages.Message.{Message}
use Rattle.rc_types.specs.declared.messages.Body.{Body}
use Rattle.rc_types.specs.declared.events.MasterSetup.{MasterSetup}
use Rattle.rc_model.specs.Master.{Master, new_master}
use Rattle.rc_model.specs.MasterStep.{master_takes, master_ticks}
use Rattle.rc_step_laws.specs.Facts.{GoodMaster}
use Rattle.rc_step_laws.specs.Moves.{OwnFine, MasterMoved, MayHear}

-- a step on a message that the master may hear
abbrev pub MasterTakesKeeps : Type 0
MasterTakesKeeps = (sent : List Message) (m : ServerId) (master : Master) (from : Addr) (body : Body) →
    GoodMaster sent m master → OwnFine sent m master.log → MayHear sent m from body →
    MasterMoved sent m master (master_takes master from body)

-- a step on the timer
abbrev pub MasterTicksKeeps : Type 0
MasterTicksKeeps = (sent : List Message) (m : ServerId) (master : Master) →
    GoodMaster sent m master → OwnFine sent m master.log → MasterMoved sent m master (master_ticks master)

-- a master at its start, when nothing was sent
abbrev pub NewMasterIsGood : Type 0
NewMasterIsGood = (m : ServerId) (setup : MasterSetup) → GoodMaster [] m (new_master m setup)
