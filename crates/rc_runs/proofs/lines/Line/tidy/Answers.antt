use Rattle.std.proofs.Common.{not, inr, ◌≡◌, ◌∙◌, filter, subst, rules, tests}
use Rattle.rc_runs.specs.Lanes.{marked, Lane}
use Rattle.rc_runs.proofs.Waitings.{retained}
use Rattle.rc_runs.proofs.lines.Line.tidy.Goals as goal

pub returns-in-Some-clause-numbers : goal.returns-in-Some-clause-numbers
returns-in-Some-clause-numbers c =
    let kept = c.retain.ensures.filtered in
    inr (subst (λ (l : Lane). c.retain.new.self.items ≡ filter (λ n. not (marked c.args.delivered.now n)) l.numbers)
    c.self.view_is
    (kept.4 ∙ retained _ _ (λ n. not (marked c.args.delivered.now n)) (λ x b q k. search (rules, tests)) _
    kept.0 kept.1 kept.2 kept.3))
