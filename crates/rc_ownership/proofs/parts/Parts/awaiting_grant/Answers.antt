use Rattle.std.proofs.Common.{◌≡◌, ap, subst, ◌∙◌}
use Rattle.std.specs.Prelude.{IfOk}
use Rattle.std.specs.List.{filter_map}
use Rattle.rc_ownership.specs.Notes.{replayed_in}
use Rattle.rc_ownership.specs.Parts.{who_fetched, awaiting_grant}
use Rattle.rc_ownership.specs.Unfinished.{awaiting_at}
use Rattle.rc_ownership.proofs.Places.{stand-all, terms-awaiting}
use Rattle.rc_ownership.proofs.parts.Parts.awaiting_grant.Goals as goal

pub returns : goal.returns
returns c =
    let durable = replayed_in c.args.notes.now in
    let entries = c.self.inside.begun.entries in
    let grants = c.self.inside.grants in
    subst (λ list. IfOk c.awaiting_terms.result (λ terms. terms.items ≡ list))
    (ap (filter_map (awaiting_at durable grants entries)) c.as_slice-places.ensures.value
    ∙ terms-awaiting grants durable entries 0 c.self.inside.unfinished.items entries (stand-all entries)
    c.self.invariant.table.places_now
    ∙ ap (λ fetched. awaiting_grant durable (who_fetched fetched) fetched.parts) c.self.view_is)
    c.awaiting_terms.ensures
