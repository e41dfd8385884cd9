use Rattle.rc_keeping.proofs.SaveLaws.{cut-is-refused, damaged-is-refused, saves-apart}
use Rattle.rc_keeping.proofs.save_laws.damage_is_refused.Goals as goal

pub returns-clause-cut : goal.returns-clause-cut
returns-clause-cut c = cut-is-refused

pub returns-clause-damaged : goal.returns-clause-damaged
returns-clause-damaged c = damaged-is-refused

pub returns-clause-prefix_free : goal.returns-clause-prefix_free
returns-clause-prefix_free c = saves-apart
