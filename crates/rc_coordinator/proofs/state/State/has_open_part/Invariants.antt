use Rattle.std.proofs.Common.{◌≡◌, not, drop}
use Rattle.std.specs.List.{list_any}
use Rattle.rc_model.specs.Model.{parts_of, is_granted_term}
use Rattle.rc_coordinator.specs.View.{state_view}
use Rattle.rc_coordinator.proofs.state.State.has_open_part.Given as goal

-- an open part is among those that are left
abbrev pub invariant-loop-given : goal.invariant-loop-given
invariant-loop-given g l =
    list_any (λ part. not (is_granted_term (state_view l.self) part)) (parts_of l.id (drop l.given-index l.decision.parts))
    ≡ list_any (λ part. not (is_granted_term (state_view l.self) part)) (parts_of l.id l.decision.parts)
