use Rattle.rc_keeping.proofs.SaveLaws.{saved-is-loaded, saves-are-taken}
use Rattle.rc_keeping.proofs.Loaded.{saves-are-no-records}
use Rattle.rc_keeping.proofs.save_laws.what_is_saved_is_loaded.Goals as goal

pub returns-clause-loaded : goal.returns-clause-loaded
returns-clause-loaded c = saved-is-loaded

pub returns-clause-taken : goal.returns-clause-taken
returns-clause-taken c = saves-are-taken

pub returns-clause-no_record : goal.returns-clause-no_record
returns-clause-no_record c = saves-are-no-records
