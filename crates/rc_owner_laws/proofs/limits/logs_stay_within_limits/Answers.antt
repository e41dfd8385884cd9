use Rattle.rc_owner_laws.proofs.Limiting.{logs-stay-within-limits, segments-take-what-is-set-up}
use Rattle.rc_owner_laws.proofs.limits.logs_stay_within_limits.Goals as goal

pub returns-clause-limits : goal.returns-clause-limits
returns-clause-limits c = logs-stay-within-limits

pub returns-clause-size : goal.returns-clause-size
returns-clause-size c = segments-take-what-is-set-up
