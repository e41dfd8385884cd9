use Rattle.std.proofs.Common.{ap, ◌∙◌}
use Rattle.rc_model.specs.Ownership.{owns_term}
use Rattle.rc_ownership.specs.Grants.{owner_of}
use Rattle.rc_ownership.proofs.Granted.{owns_term-lookup}
use Rattle.rc_ownership.proofs.grants.Grants.owns_term.Goals as goal

pub returns : goal.returns
returns c =
    c.contains_key.ensures ∙ owns_term-lookup c.self.inside.ranges.entries c.args.term
    ∙ ap (λ grants. owns_term (owner_of grants) c.args.term) c.self.view_is
