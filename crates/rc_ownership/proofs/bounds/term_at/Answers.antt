use Rattle.std.proofs.Common.{nat_cmp, rules}
use Rattle.std.specs.BTreeMap.{get}
use Rattle.rc_ownership.proofs.Saying.{IsSaid-last}
use Rattle.rc_ownership.proofs.bounds.term_at.Goals as goal

pub returns-in-Some : goal.returns-in-Some
returns-in-Some c =
    let in_range = c.range.ensures.in_range (search rules) in
    let last = in_range.3 _ _ c.in-Some.ensures.steps in
    IsSaid-last (get nat_cmp c.args.bounds.now) c.in-Some.field-0-0.now c.args.point c.in-Some.term.now last.0.1 last.1
    (λ other low. in_range.4 _ _ c.in-Some.ensures.steps other (search rules, low))
