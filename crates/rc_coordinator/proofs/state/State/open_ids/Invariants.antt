use Rattle.std.proofs.Common.{◌≡◌, ◌++◌, filter, drop}
use Rattle.rc_model.specs.CoordinatorStep.{has_open_part}
use Rattle.rc_coordinator.specs.View.{state_view}
use Rattle.rc_coordinator.proofs.state.State.open_ids.Given as goal

-- the ids so far, and then those among the ones that are left
abbrev pub invariant-loop-id : goal.invariant-loop-id
invariant-loop-id g l =
    l.open.items ++ filter (has_open_part (state_view l.self) l.decision) (drop l.id-index l.ids)
    ≡ filter (has_open_part (state_view l.self) l.decision) l.ids
