use Rattle.std.proofs.Common.{ap, ◌∙◌}
use Rattle.rc_model.specs.Ownership.{has_part}
use Rattle.rc_ownership.specs.Parts.{who_fetched}
use Rattle.rc_ownership.proofs.PartTables.{has_part-lookup}
use Rattle.rc_ownership.proofs.parts.Parts.has_part.Goals as goal

pub returns : goal.returns
returns c =
    c.contains_key.ensures ∙ has_part-lookup c.self.inside.begun.entries c.args.term c.self.invariant.table.under_terms
    ∙ ap (λ fetched. has_part (who_fetched fetched) c.args.term) c.self.view_is
