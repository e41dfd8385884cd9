use Rattle.std.proofs.Common.{Some, None, find, option_map, ap, sym, ◌∙◌}
use Rattle.std.specs.Prelude.{slice_get}
use Rattle.std.specs.Option.{option_map_or}
use Rattle.rc_model.specs.Ownership.{is_to_answer}
use Rattle.rc_ownership.specs.Notes.{replayed_in}
use Rattle.rc_ownership.specs.Unfinished.{is_due}
use Rattle.rc_ownership.proofs.Places.{term-due}
use Rattle.rc_ownership.proofs.parts.Parts.to_answer.Goals as goal

pub returns-in_default : goal.returns-in_default
returns-in_default c =
    let durable = replayed_in c.args.notes.now in
    let entries = c.self.inside.begun.entries in
    let places = c.self.inside.untold.items in
    sym (ap (λ found. option_map_or (λ place. option_map (λ entry. entry.1.part.term) (slice_get entries place)) found None)
    c.in_default.is)
    ∙ term-due durable entries places c.first_due.result c.self.invariant.ends.places_now
    (c.first_due.ensures ∙ ap (find (is_due durable entries)) c.as_slice-places.ensures.value)
    ∙ ap (λ fetched. option_map (λ state. state.part.term) (find (is_to_answer durable) fetched.parts)) c.self.view_is

pub returns-in-Some-get_index : goal.returns-in-Some-get_index
returns-in-Some-get_index c =
    let durable = replayed_in c.args.notes.now in
    let entries = c.self.inside.begun.entries in
    let places = c.self.inside.untold.items in
    ap Some c.term.ensures
    ∙ ap (option_map (λ entry. entry.1.part.term)) c.in-Some-get_index.ensures.entry
    ∙ sym (ap (λ found. option_map_or (λ place. option_map (λ entry. entry.1.part.term) (slice_get entries place)) found None)
    c.in-Some.is)
    ∙ term-due durable entries places c.first_due.result c.self.invariant.ends.places_now
    (c.first_due.ensures ∙ ap (find (is_due durable entries)) c.as_slice-places.ensures.value)
    ∙ ap (λ fetched. option_map (λ state. state.part.term) (find (is_to_answer durable) fetched.parts)) c.self.view_is

pub returns-in-None : goal.returns-in-None
returns-in-None c =
    let durable = replayed_in c.args.notes.now in
    let entries = c.self.inside.begun.entries in
    let places = c.self.inside.untold.items in
    ap (option_map (λ entry. entry.1.part.term)) c.in-None.ensures.entry
    ∙ sym (ap (λ found. option_map_or (λ place. option_map (λ entry. entry.1.part.term) (slice_get entries place)) found None)
    c.in-Some.is)
    ∙ term-due durable entries places c.first_due.result c.self.invariant.ends.places_now
    (c.first_due.ensures ∙ ap (find (is_due durable entries)) c.as_slice-places.ensures.value)
    ∙ ap (λ fetched. option_map (λ state. state.part.term) (find (is_to_answer durable) fetched.parts)) c.self.view_is
