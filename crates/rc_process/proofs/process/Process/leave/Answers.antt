use Rattle.std.proofs.Common.{refl}
use Rattle.std.proofs.lemmas.Option.{IfSome_then}
use Rattle.rc_process.proofs.Waiting.{taken_order, taken_left, left_is_first, left_leaves, all_wait, either_found, where_none}
use Rattle.rc_process.proofs.process.Process.leave.Goals as goal

pub invariant_of-self : goal.invariant_of-self
invariant_of-self g c =
    either_found c.take_in_turn.result _ _ c.take_in_turn.ensures.some c.take_in_turn.ensures.none
    (λ messages taken. taken_order _ _ _ _ _ _ _ _ _ c.self.invariant taken)
    (λ same. rw (same.0, same.1) c.self.invariant)

pub returns-clause-first : goal.returns-clause-first
returns-clause-first g c =
    IfSome_then c.take_in_turn.result c.take_in_turn.ensures.some (λ messages taken.
    rw (← c.self.view_is) (left_is_first _ _ _ _ (taken_left _ _ _ _ _ _ _ _ _ c.self.invariant taken)))

pub returns-clause-some : goal.returns-clause-some
returns-clause-some g c =
    IfSome_then c.take_in_turn.result c.take_in_turn.ensures.some (λ messages taken.
    rw (← c.self.view_is) (left_leaves _ _ _ (taken_left _ _ _ _ _ _ _ _ _ c.self.invariant taken) refl))

pub returns-clause-waits : goal.returns-clause-waits
returns-clause-waits g c =
    where_none c.take_in_turn.result _ _ (λ waits.
    rw (← c.self.view_is) (all_wait _ _ _ _ _ _ c.self.invariant waits.0 waits.1)) c.take_in_turn.ensures.waits
