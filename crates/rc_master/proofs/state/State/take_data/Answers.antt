use Rattle.rc_master.proofs.TasksListed.{tasks-data}
use Rattle.rc_master.proofs.TasksOfParts.{notes-parts}
use Rattle.rc_master.proofs.state.State.take_data.Goals as goal

pub returns-clause-noted : goal.returns-clause-noted
returns-clause-noted c =
    rw c.in_ok-put_data.ensures.ok
    (notes-parts (tasks-data c.args.term c.args.seg c.args.from c.args.entries.now c.args.self.now.ownership.own.parts
    c.args.self.now.tasks.items c.requires.noted.tasks_are) c.requires.noted)
