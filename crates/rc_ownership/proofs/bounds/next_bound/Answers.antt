use Rattle.std.proofs.Common.{nat_cmp, rules}
use Rattle.std.specs.BTreeMap.{get}
use Rattle.rc_ownership.proofs.Saying.{none_before, below}
use Rattle.rc_ownership.proofs.bounds.next_bound.Goals as goal

pub returns-in-Some-clause-none : goal.returns-in-Some-clause-none
returns-in-Some-clause-none c =
    let in_range = c.range.ensures.in_range (search rules) in
    let found = rw c.in-Some.ensures.steps at in_range.1 in
    none_before (get nat_cmp c.args.bounds.now) c.args.point c.args.end c.in-Some.bound.now (below c.in-Some.bound.now c.args.end found.0.1)
    (λ other above low some. rw c.in-Some.ensures.steps at (in_range.2 other (above, low) some))
