use Rattle.rc_model.proofs.Changes.{Fresh, lose-fresh, noted-other}
use Rattle.rc_model.proofs.masters.changes_begin_afresh.Goals as goal

pub returns-clause-fresh : goal.returns-clause-fresh
returns-clause-fresh c own servers old new e =
    let fresh : Fresh old new = lose-fresh own servers e in (fresh.epoch, fresh.committed)

pub returns-clause-untold : goal.returns-clause-untold
returns-clause-untold c own servers old new k member e =
    let fresh : Fresh old new = lose-fresh own servers e in fresh.untold k member

pub returns-clause-other : goal.returns-clause-other
returns-clause-other c = noted-other
