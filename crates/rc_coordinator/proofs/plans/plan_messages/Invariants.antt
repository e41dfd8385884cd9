use Rattle.std.proofs.Common.{◌≡◌, ◌++◌, drop}
use Rattle.rc_model.specs.Attempts.{plan_messages}
use Rattle.rc_coordinator.proofs.plans.plan_messages.Given as goal

-- the plans so far, and then those to the ids that are left
abbrev pub invariant-loop-id : goal.invariant-loop-id
invariant-loop-id l =
    l.messages.items ++ plan_messages l.number l.master l.decision (drop l.id-index l.ids)
    ≡ plan_messages l.number l.master l.decision l.ids
