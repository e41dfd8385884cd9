use Rattle.std.proofs.Common.{◌≡◌, ◌++◌, drop}
use Rattle.rc_model.specs.Model.{Gather, to_each}
use Rattle.rc_coordinator.proofs.notices.add_gathers.Given as goal

-- the messages so far, and then those to the ids that are left
abbrev pub invariant-loop-id : goal.invariant-loop-id
invariant-loop-id l =
    l.messages.items ++ to_each (drop l.id-index l.id-items) (Gather l.attempt l.master) ≡ l.initial.messages.items ++
    to_each l.id-items (Gather l.attempt l.master)
