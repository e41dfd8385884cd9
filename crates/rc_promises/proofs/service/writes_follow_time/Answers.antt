use Rattle.rc_promises.proofs.Time.{writes-follow-time}
use Rattle.rc_promises.proofs.service.writes_follow_time.Goals as goal

pub returns : goal.returns
returns c = writes-follow-time
