use Rattle.std.proofs.Common.{◌≡◌, ◌++◌, drop}
use Rattle.rc_types.specs.declared.messages.Body.TheVariants.{List as Listed}
use Rattle.rc_model.specs.Messages.{to_each}
use Rattle.rc_coordinator.proofs.notices.rows_to_each.Given as goal

-- the messages so far, and then those to the ids that are left
abbrev pub invariant-loop-id : goal.invariant-loop-id
invariant-loop-id l =
    l.messages.items ++ to_each (drop l.id-index l.ids) (Listed l.version l.rows) ≡ to_each l.ids (Listed l.version l.rows)
