use Rattle.std.proofs.Common.{◌≡◌, ◌-◌, ◌<◌, length, ap, ◌∙◌, arith, subst, sym}
use Rattle.std.specs.List.{All}
use Rattle.rc_model.specs.Segment.{Segment}
use Rattle.rc_config.specs.Lists.{previous_of}
use Rattle.rc_headroll.specs.Soundness.{IsKnown}
use Rattle.rc_headroll.proofs.log.LogHead.previous.Goals as goal

is_old : (c : goal.After-previous) → c.previous.result.now ≡ previous_of c.self.inside.segments.items
is_old c = c.previous.ensures ∙ ap previous_of c.as_slice.ensures.value

pub returns-clause-previous : goal.returns-clause-previous
returns-clause-previous c = rw (← c.self.view_is) (is_old c)

pub returns-clause-known : goal.returns-clause-known
returns-clause-known c =
    let more : 1 < length c.self.inside.segments.items = rw (← c.self.view_is) at c.requires in
    rw (← c.self.view_is)
    (subst (λ (s : Segment). All (IsKnown (length c.self.inside.segments.items)) s.digest) (sym (is_old c))
    (c.self.invariant.0.now.each (length c.self.inside.segments.items - 1) (omega arith) (omega arith)).known)
