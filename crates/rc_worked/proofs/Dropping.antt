-- A plan that leaves out the place of an acknowledged write.
use Rattle.std.proofs.Common.{◌≡◌, List, [], ◌∷◌, refl, sym, subst, inl}
use Rattle.rc_model.specs.Model.{Message, acknowledged, accepted, In, IsThereItself, NothingIsDropped}
use Rattle.rc_model.proofs.Members.{held-is_recovered}
use Rattle.rc_model.proofs.Said.{HasAcknowledged-from, WasAccepted-from}
use Rattle.rc_model.proofs.Tests.{true_false}
use Rattle.rc_worked.specs.Settling.{id}
use Rattle.rc_worked.specs.Happening.{ack, freed_plan, freed_acks}

-- where this plan was accepted, and these writes were acknowledged, the first of them is at its own place no more
pub first-dropped : (sent : List Message) → accepted sent ≡ freed_plan ∷ [] → acknowledged sent (id 0 1) ≡ freed_acks →
    NothingIsDropped sent → ⊥
first-dropped sent plans acks all = true_false (sym (held-is_recovered there.held))
  where
    there : IsThereItself sent freed_plan (ack 1 0 1 1 1)
    there = all freed_plan (WasAccepted-from sent freed_plan (subst (In freed_plan) (sym plans) (inl refl)))
        (ack 1 0 1 1 1)
        (HasAcknowledged-from sent (id 0 1) (ack 1 0 1 1 1) (subst (In (ack 1 0 1 1 1)) (sym acks) (inl refl)))
