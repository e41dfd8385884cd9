use Rattle.rc_promises.proofs.Following.{reads-follow-time, writes-follow-reads}
use Rattle.rc_promises.proofs.confirmed.reads_follow_time.Goals as goal

pub returns : goal.returns
returns c = record { reads = reads-follow-time; writes = writes-follow-reads }
