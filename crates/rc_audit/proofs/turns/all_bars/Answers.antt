use Rattle.std.proofs.Common.{refl}
use Rattle.rc_audit.proofs.OrderLemmas.{bars_from_over}
use Rattle.rc_audit.proofs.turns.all_bars.Goals as goal

pub returns : goal.returns
returns c = λ sent are levels.
    bars_from_over c.in_ok-order.order c.args.grants.now c.args.highs.now c.in_ok-bars.bars sent (c.if-not-keeps.ensures refl)
    are levels c.in_ok-bars.ensures
