-- What each work does to a master.
use Rattle.std.specs.Prelude.{List, []}
use Rattle.rc_types.specs.declared.events.NodeWork.{NodeWork}
use Rattle.rc_types.specs.declared.events.NodeWork.TheVariants as work
use Rattle.rc_types.specs.declared.messages.Message.{Message}
use Rattle.rc_model.specs.Master.{Master}
use Rattle.rc_model.specs.MasterStep.{master_takes, master_ticks}

-- what isn't a message or the timer is for other nodes, and does nothing here
abbrev pub steps : Master → NodeWork → Master × List Message
steps master (work.Deliver message) = master_takes master message.from message.body
steps master work.Tick = master_ticks master
steps master _ = (master, [])
