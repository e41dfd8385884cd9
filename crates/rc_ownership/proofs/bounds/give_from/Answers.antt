use Rattle.std.proofs.Common.{nat_cmp, ap, ◌∙◌, arith}
use Rattle.std.specs.BTreeMap.{get}
use Rattle.rc_ownership.proofs.Saying.{given, within_end}
use Rattle.rc_ownership.proofs.bounds.give_from.Goals as goal

pub returns : goal.returns
returns c = λ other.
    c.loop-point.invariant.given_so_far other
    ∙ ap (λ b. given c.args.term b (get nat_cmp c.args.bounds.now other))
    (within_end c.args.first c.args.end c.loop-point.point c.loop-point.invariant.low (omega arith) c.loop-point.invariant.high other)
