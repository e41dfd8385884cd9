use Rattle.std.proofs.Common.{arith}
use Rattle.std.proofs.lemmas.Grind.{common_steps}
use Rattle.rc_headroll.specs.LogData.{log_of}
use Rattle.rc_ownership.specs.Owner.{replayed_of}
use Rattle.rc_master.proofs.Senders.{recovered-again}
use Rattle.rc_master.proofs.again.add_recovered_again.Goals as goal

pub returns-clause-ok : goal.returns-clause-ok
returns-clause-ok c =
    let same =
    recovered-again (log_of c.args.log.now) c.args.ownership.now.own c.args.tasks.now (replayed_of c.args.ownership.now)
    c.requires.durable in
    grind (arith, common_steps, same)
