use Rattle.rc_runs.proofs.Scenes.{one_goes_on, one_stops}
use Rattle.rc_runs.proofs.runs.Run.play.Goals as goal

pub returns-in-Core-clause-ok : goal.returns-in-Core-clause-ok
returns-in-Core-clause-ok g c =
    rw c.in-Core.is (one_goes_on c.take.result c.args.self.now c.take.new.self c.in-Core.core
    c.take.ensures.taken c.take.ensures.ok c.take.ensures.possible)

pub returns-in-Core-clause-err : goal.returns-in-Core-clause-err
returns-in-Core-clause-err g c =
    rw c.in-Core.is (one_stops c.take.result c.args.self.now c.take.new.self c.in-Core.core
    c.take.ensures.taken c.take.ensures.fault c.take.ensures.bad c.take.ensures.err)
