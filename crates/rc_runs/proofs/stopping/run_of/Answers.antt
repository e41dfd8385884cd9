use Rattle.rc_runs.proofs.CutWorlds.{run_is}
use Rattle.rc_runs.proofs.stopping.run_of.Goals as goal

pub returns-in-Ok-take_all : goal.returns-in-Ok-take_all
returns-in-Ok-take_all c =
    run_is c.args.events.now c.args.setup.now c.in-Ok.run' c.take_all.new.run c.in-Ok.ensures c.in-Ok-take_all.ensures
