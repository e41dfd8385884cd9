use Rattle.std.proofs.Common.{sym, ap, subst}
use Rattle.rc_ownership.specs.Parts.{who_fetched, parts_in}
use Rattle.rc_ownership.specs.Unfinished.{HoldOthers, HoldUnfinished, IsDone}
use Rattle.rc_ownership.proofs.Places.{stand-all, places-done}
use Rattle.rc_ownership.proofs.parts.Parts.unfinished.Goals as goal

pub returns : goal.returns
returns c =
    let own = who_fetched c.args.self.now in
    let entries = c.self.inside.begun.entries in
    let places = c.self.inside.unfinished.items in
    let parts = ap (λ fetched. fetched.parts) c.self.view_is in
    subst (HoldOthers (IsDone own) 0 c.as_slice.result.now) parts
    (subst (λ ps. HoldOthers (IsDone own) 0 ps (parts_in entries)) (sym c.as_slice.ensures.value)
    (places-done own entries 0 places entries c.self.invariant.table.under_terms (sym parts) (stand-all entries)
    (subst (λ grants. HoldUnfinished grants places (parts_in entries)) (ap (λ fetched. fetched.grants) c.self.view_is)
    c.self.invariant.table.places_now)))
