use Rattle.std.proofs.Common.{arith}
use Rattle.rc_model.specs.Pick.{head_first, is_open_valid}
use Rattle.rc_digestpick.proofs.First.{first_by_step}
use Rattle.rc_digestpick.proofs.head.head_row.Goals as goal

pub loop-holder-preserved : goal.loop-holder-preserved
loop-holder-preserved c =
    first_by_step head_first (is_open_valid c.args.min) _ _ c.args.replies.now c.loop-holder.holder-index
    c.loop-holder-item.result _ (omega arith) c.loop-holder-item.is c.as_slice.ensures c.loop-holder.invariant
    c.highest-best.ensures
