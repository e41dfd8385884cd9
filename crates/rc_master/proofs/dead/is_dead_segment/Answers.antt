use Rattle.std.proofs.Common.{true}
use Rattle.rc_headroll.specs.LogData.{log_of}
use Rattle.rc_master.specs.Keeper.{keeper}
use Rattle.rc_master.proofs.Outdated.{unknown-open, open-alive, none-unknown}
use Rattle.rc_master.proofs.dead.is_dead_segment.Goals as goal

pub returns-in_default-clause-dead : goal.returns-in_default-clause-dead
returns-in_default-clause-dead c =
    open-alive (keeper true (log_of c.args.log.now)) c.args.seg
    (unknown-open c.args.log.now c.args.seg (none-unknown _ _ c.in_default.ensures))
