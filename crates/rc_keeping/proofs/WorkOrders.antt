-- A work whose first byte is that of an order.
use Rattle.std.proofs.Common.{◌≡◌, ℕ, ◌≤◌, List, ◌∷◌, Option, Some, ap, ◌∙◌}
use Rattle.rc_codec.specs.Reading.{◌>>=◌, made, nothing_at, Fails}
use Rattle.rc_codec.specs.Fields.{chosen_at}
use Rattle.rc_codec.specs.Events.{order_at}
use Rattle.rc_codec.specs.declared.faults.DecodeFault.{DecodeFault}
use Rattle.rc_codec.specs.declared.faults.DecodeFault.TheVariants.{OutOfMemory, Malformed}
use Rattle.rc_codec.proofs.Choices.{after_five}
use Rattle.rc_types.specs.declared.events.NodeWork.{NodeWork}
use Rattle.rc_types.specs.declared.events.NodeWork.TheVariants as work
use Rattle.rc_types.specs.declared.events.Order.{Order}
use Rattle.rc_keeping.specs.Readers.{ask_at, deliver_at, start_at, works, node_work_at}

pub work_orders : (k : ℕ) (rest : List ℕ) → 5 ≤ k → chosen_at works (k ∷ rest) ≡ made (order_at k) work.Order rest
work_orders =
    after_five work.Order ask_at deliver_at (made nothing_at (λ _. work.Tick)) (made nothing_at (λ _. work.Stop)) start_at

abbrev as_work : Option (Order × List ℕ) → Option (NodeWork × List ℕ)
as_work read = read >>= λ x. Some (work.Order x.0, x.1)

pub work_ordered : (k : ℕ) (xs : List ℕ) (x : Order) (rest : List ℕ) → 5 ≤ k → order_at k xs ≡ Some (x, rest) →
    node_work_at (k ∷ xs) ≡ Some (work.Order x, rest)
unfolding node_work_at
work_ordered k xs x rest far read = work_orders k xs far ∙ ap as_work read

pub work_fails : (k : ℕ) (xs : List ℕ) (fault : DecodeFault) → 5 ≤ k → Fails fault (order_at k xs) →
    Fails fault (node_work_at (k ∷ xs))
unfolding node_work_at
work_fails k xs OutOfMemory far read = tt
work_fails k xs Malformed far read = work_orders k xs far ∙ ap as_work read
