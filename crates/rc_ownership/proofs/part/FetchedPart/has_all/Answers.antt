use Rattle.std.proofs.Common.{nat_eq, ap, ◌∙◌}
use Rattle.rc_model.specs.Ownership.{all_came}
use Rattle.rc_ownership.proofs.PartRows.{all_came-missing}
use Rattle.rc_ownership.proofs.part.FetchedPart.has_all.Goals as goal

pub returns : goal.returns
returns c =
    ap (λ n. nat_eq n 0) c.self.invariant.missing_are ∙ all_came-missing c.self.inside.rows.items ∙
    ap (λ part. all_came part.rows) c.self.view_is
