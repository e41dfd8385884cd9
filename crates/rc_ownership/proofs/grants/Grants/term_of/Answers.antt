use Rattle.std.proofs.Common.{ap, ◌∙◌, arith}
use Rattle.rc_model.specs.Ownership.{term_of}
use Rattle.rc_ownership.specs.Bounds.{terms_of}
use Rattle.rc_ownership.specs.Grants.{grants_in, owner_of}
use Rattle.rc_ownership.proofs.Granted.{terms_of-point}
use Rattle.rc_ownership.proofs.grants.Grants.term_of.Goals as goal

pub returns : goal.returns
returns c =
    let grants = grants_in c.self.inside.ranges.entries in
    c.self.invariant c.point_of.result c.term_at.result c.term_at.ensures
    ∙ ap (terms_of grants) c.point_of.ensures.value
    ∙ terms_of-point grants c.args.table c.args.key (omega arith)
    ∙ ap (λ held. term_of (owner_of held) c.args.table c.args.key) c.self.view_is
