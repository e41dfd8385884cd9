use Rattle.std.proofs.Common.{◌≡◌, ◌++◌, not, filter, drop}
use Rattle.rc_model.specs.Model.{Gather, to_each, has_answered}
use Rattle.rc_coordinator.proofs.notices.gather_again.Given as goal

-- the messages so far, and then those to the ids that are left
abbrev pub invariant-loop-id : goal.invariant-loop-id
invariant-loop-id l =
    l.messages.items ++ to_each (filter (λ id. not (has_answered id l.attempt.replies)) (drop l.id-index l.ids))
    (Gather l.number l.attempt.master)
    ≡ l.initial.messages.items ++ to_each (filter (λ id. not (has_answered id l.attempt.replies)) l.ids) (Gather l.number l.attempt.master)
