use Rattle.std.proofs.Common.{◌<◌, length, arith}
use Rattle.rc_model.specs.Pick.{head_first, is_open_valid}
use Rattle.rc_digestpick.proofs.First.{first_after_step}
use Rattle.rc_digestpick.proofs.head.highest.Goals as goal

pub loop-row-preserved : goal.loop-row-preserved
loop-row-preserved c = first_after_step head_first (is_open_valid c.args.min) _ _ _ _ _ _ _
    (let inside : c.loop-row.row-index < length c.args.rows.now = omega arith in inside) c.row-item.is
    c.loop-row.invariant c.higher-best.ensures
