use Rattle.rc_model.specs.Log.{entries_of}
use Rattle.rc_headroll.specs.LogData.{log_of}
use Rattle.rc_ownership.specs.Owner.{durable_of}
use Rattle.rc_master.proofs.Outdated.{quiet-alive}
use Rattle.rc_master.proofs.dead.is_known_alive.Goals as goal

pub returns-in-Some : goal.returns-in-Some
returns-in-Some c known =
    quiet-alive (entries_of (log_of c.args.log.now)) (durable_of c.args.ownership.now) (log_of c.args.log.now).durable
    ((log_of c.args.log.now).segments c.args.seg).entries c.in-Some.found.now c.requires c.in-Some.ensures
    (c.is_quiet.ensures known)
