use Rattle.std.proofs.Common.{arith}
use Rattle.rc_model.specs.Pick.{closed_first, is_valid_of}
use Rattle.rc_digestpick.proofs.First.{first_by_step}
use Rattle.rc_digestpick.proofs.best.best_rows.Goals as goal

pub loop-holder-preserved : goal.loop-holder-preserved
loop-holder-preserved c = λ seg.
    first_by_step closed_first (is_valid_of c.args.min seg) _ _ c.args.replies.now c.loop-holder.holder-index
    c.loop-holder-item.result _ (omega arith) c.loop-holder-item.is c.as_slice.ensures (c.loop-holder.invariant seg)
    (c.in_ok-enter_rows.ensures.ok seg)
