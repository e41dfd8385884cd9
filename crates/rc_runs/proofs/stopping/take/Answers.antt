use Rattle.std.proofs.Common.{Err, ap}
use Rattle.rc_runs.proofs.CutWorlds.{takes_step, passes_step}
use Rattle.rc_runs.proofs.stopping.take.Goals as goal

pub returns-in-Ok-clause-ok : goal.returns-in-Ok-clause-ok
returns-in-Ok-clause-ok c = takes_step c.args.run.now c.take.new.self c.args.event.now c.in-Ok.ensures.ok

pub returns-in-Err-BadEvent-clause-ok : goal.returns-in-Err-BadEvent-clause-ok
returns-in-Err-BadEvent-clause-ok c =
    passes_step c.args.run.now c.take.new.self c.args.event.now c.requires c.in-Err-BadEvent.ensures.err
    (c.in-Err-BadEvent.ensures.bad (ap Err c.in-Err-BadEvent.field-0-is))
