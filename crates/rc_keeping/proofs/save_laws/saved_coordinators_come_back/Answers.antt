use Rattle.rc_keeping.proofs.Loaded.{loaded-is-the-saved, coordinators-are-back}
use Rattle.rc_keeping.proofs.save_laws.saved_coordinators_come_back.Goals as goal

pub returns-clause-same : goal.returns-clause-same
returns-clause-same c = loaded-is-the-saved

pub returns-clause-back : goal.returns-clause-back
returns-clause-back c = coordinators-are-back
