use Rattle.rc_ownership.specs.Owner.{replayed_of}
use Rattle.rc_master.proofs.TasksListed.{tasks-answered}
use Rattle.rc_master.proofs.told_parts.tell_part.Goals as goal

pub recovered-requires : goal.recovered-requires
recovered-requires c =
    rw c.complete.ensures.answered
    (tasks-answered (replayed_of c.args.ownership.now) c.args.ownership.now.own.parts c.args.tasks.now c.requires)
