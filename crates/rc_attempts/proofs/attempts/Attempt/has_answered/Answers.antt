use Rattle.std.proofs.Common.{ap, rules, tests, ◌∙◌}
use Rattle.std.proofs.lemmas.Iterator.{YieldsList-from_slice}
use Rattle.std.proofs.lemmas.Iterator.Search.{any_from_yields_List}
use Rattle.rc_model.specs.Model.{same_id, has_answered}
use Rattle.rc_attempts.proofs.attempts.Attempt.has_answered.Goals as goal

pub returns : goal.returns
returns c =
    any_from_yields_List (λ reply. same_id c.args.from reply.0) _ _ _ c.any.ensures.ran
    (YieldsList-from_slice c.self.inside.replies.items cc) (λ x b q k. search (rules, tests))
    ∙ ap (λ attempt. has_answered c.args.from attempt.replies) c.self.view_is
