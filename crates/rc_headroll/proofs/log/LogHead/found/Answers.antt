use Rattle.std.proofs.Common.{◌≡◌, Some, slice_get, sym, ap, ◌∙◌}
use Rattle.std.proofs.lemmas.Option.{slice_get-get_or}
use Rattle.rc_headroll.proofs.log.LogHead.found.Goals as goal

pub returns : goal.returns
returns c =
    let at : slice_get c.deref.result.now c.from.result ≡ Some c.in-Some-Some.field-0.now =
    slice_get-get_or c.deref.result.now c.from.result c.in-Some-Some.field-0.now c.in-Some-Some.ensures.lookup.3.0
    ∙ ap Some (sym c.in-Some-Some.ensures.lookup.1) in
    let here : slice_get c.self.inside.alive.items c.args.seg ≡ Some (Some c.in-Some-Some.found) =
    rw (← c.deref.ensures.value, ← c.from.ensures) (at ∙ ap Some c.in-Some-Some.field-0-is) in
    rw (← c.self.view_is) (c.self.invariant.3.each c.args.seg c.in-Some-Some.found here)
