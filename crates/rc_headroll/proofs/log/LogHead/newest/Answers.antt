use Rattle.std.proofs.Common.{◌≡◌, ◌<◌, length, ap, ◌∙◌, arith, subst, sym}
use Rattle.std.specs.List.{All}
use Rattle.rc_model.specs.Segment.{Segment}
use Rattle.rc_config.specs.Lists.{newest_of}
use Rattle.rc_headroll.specs.Soundness.{IsKnown}
use Rattle.rc_headroll.proofs.log.LogHead.newest.Goals as goal

is_head : (c : goal.After-newest) → c.newest.result.now ≡ newest_of c.self.inside.segments.items
is_head c = c.newest.ensures ∙ ap newest_of c.as_slice.ensures.value

pub returns-clause-newest : goal.returns-clause-newest
returns-clause-newest c = rw (← c.self.view_is) (is_head c)

pub returns-clause-known : goal.returns-clause-known
returns-clause-known c =
    let some : 0 < length c.self.inside.segments.items = rw (← c.self.view_is) at c.requires in
    rw (← c.self.view_is)
    (subst (λ (s : Segment). All (IsKnown (length c.self.inside.segments.items)) s.digest) (sym (is_head c))
    (c.self.invariant.0.now.each (length c.self.inside.segments.items) some (omega arith)).known)
