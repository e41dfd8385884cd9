use Rattle.std.proofs.Common.{◌%◌, nat_eq, ◌∙◌, rules, tests}
use Rattle.rc_runs.proofs.Waitings.{retained}
use Rattle.rc_runs.proofs.cutting.Keeping.of.Goals as goal

pub returns-in-OddSegments : goal.returns-in-OddSegments
returns-in-OddSegments c =
    let kept = c.retain.ensures.filtered in
    rw c.in-OddSegments.is (kept.4 ∙ retained _ _ (λ name. nat_eq (name.1 % 2) 1) (λ x b q k. search (rules, tests)) _
    kept.0 kept.1 kept.2 kept.3)
