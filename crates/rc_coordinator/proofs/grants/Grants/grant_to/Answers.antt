use Rattle.std.proofs.Common.{find, ap, ◌∙◌}
use Rattle.rc_model.specs.Deciding.{is_grant_to}
use Rattle.rc_coordinator.proofs.grants.Grants.grant_to.Goals as goal

pub returns : goal.returns
returns c =
    c.copied.ensures ∙ c.get.ensures.value
    ∙ c.self.invariant.claims_are (record { term = c.args.term; owner = c.args.owner })
    ∙ ap (λ granted. find (is_grant_to c.args.owner c.args.term) granted.grants) c.self.view_is
