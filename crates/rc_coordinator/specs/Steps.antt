-- When the coordinator's numbers suffice for one more step, and the last part of a Create.
use Rattle.std.specs.Prelude.{ℕ, ◌+◌, ◌-◌, ◌^◌, ◌<◌, List, [], ◌∷◌, if◌then◌else◌, length}
use Rattle.rc_types.specs.declared.ids.ServerId.{ServerId}
use Rattle.rc_types.specs.declared.faults.Fault.TheVariants.{TooManyTablets}
use Rattle.rc_types.specs.declared.messages.Message.{Message}
use Rattle.rc_model.specs.Messages.{coordinator_refuses}
use Rattle.rc_model.specs.Coordinator.{Coordinator}
use Rattle.rc_model.specs.CoordinatorStep.{creates_table, is_too_many}

-- versions of the list, numbers of attempts and terms are below 2 ^ 32, also after one more step
pub record HasNumbers (c : Coordinator) : Type 0 where
  pub versions : c.servers.version < 2 ^ 32 - 1
  pub attempts : length c.attempts < 2 ^ 32 - 1
  pub terms : c.last_term + length c.tablets + 1 < 2 ^ 32

-- a table that isn't there is created unless there are too many tablets
abbrev pub creates_unless_full : Coordinator → ℕ → ServerId → Coordinator × List Message
creates_unless_full c table owner =
    if is_too_many c.tablets then (c, coordinator_refuses TooManyTablets ∷ []) else creates_table c table owner
