-- Segments that a log doesn't have.
use Rattle.std.proofs.Common.{◌≡◌, ℕ, zero, suc, Bool, true, false, cond, Some, None, [], arith, refl}
use Rattle.std.proofs.lemmas.List.{get_or_past}
use Rattle.rc_model.specs.Model.{Body, no_segment, has_segment, to_unlost}
use Rattle.rc_config.specs.Lists.{segment_at}
use Rattle.rc_headroll.specs.LogData.{LogData, log_of}

-- such a segment is as one that was never opened
pub unknown-segment : (kept : LogData) (seg : ℕ) → has_segment (log_of kept) seg ≡ false →
    segment_at kept.segments seg ≡ no_segment seg
unfolding segment_at
unknown-segment kept zero h = refl
unknown-segment kept (suc place) h = get_or_past kept.segments place (no_segment (suc place)) (grind (arith, h))

-- so it has no members
pub unknown-members : (kept : LogData) (seg : ℕ) (body : Body) → has_segment (log_of kept) seg ≡ false →
    to_unlost (log_of kept) seg body ≡ []
unknown-members kept seg body h = rw (unknown-segment kept seg h) refl

-- a look-up that found nothing
pub nothing-found : {X : Type 0} → (b : Bool) (x : X) → None ≡ cond b (Some x) None → b ≡ false
nothing-found true x e = absurd (cc)
nothing-found false x e = refl
