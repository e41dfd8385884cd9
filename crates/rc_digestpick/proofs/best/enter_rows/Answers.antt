use Rattle.std.proofs.Common.{arith}
use Rattle.rc_model.specs.Pick.{closed_first, is_valid_of}
use Rattle.rc_digestpick.proofs.First.{first_after_step}
use Rattle.rc_digestpick.proofs.best.enter_rows.Goals as goal

pub loop-row-preserved : goal.loop-row-preserved
loop-row-preserved c = λ seg.
    first_after_step closed_first (is_valid_of c.args.min seg) _ _ _ _ _ _ _ (omega arith) c.row-item.is
    (c.loop-row.invariant seg) (c.in_ok-enter.ensures.ok seg)
