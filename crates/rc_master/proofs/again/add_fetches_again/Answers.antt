use Rattle.std.proofs.Common.{arith}
use Rattle.std.proofs.lemmas.Grind.{common_steps}
use Rattle.rc_headroll.specs.LogData.{log_of}
use Rattle.rc_master.proofs.TaskPlaces.{fetches-unfinished}
use Rattle.rc_master.proofs.again.add_fetches_again.Goals as goal

pub returns-clause-ok : goal.returns-clause-ok
returns-clause-ok c =
    let all = fetches-unfinished (log_of c.args.log.now) c.args.ownership.now.own c.args.tasks.now
    c.unfinished-place-items.result.now c.requires c.unfinished-place-items.ensures in
    grind (arith, common_steps, all)
