use Rattle.std.proofs.Common.{nat_eq, ap, ◌∙◌}
use Rattle.std.specs.List.{position}
use Rattle.rc_ownership.proofs.PartTables.{position-lookup}
use Rattle.rc_ownership.proofs.parts.Parts.place_of.Goals as goal

pub returns : goal.returns
returns c =
    c.get_index_of.ensures.index
    ∙ position-lookup c.self.inside.begun.entries c.args.term c.self.invariant.table.under_terms
    ∙ ap (λ fetched. position (λ state. nat_eq state.part.term c.args.term) fetched.parts) c.self.view_is
