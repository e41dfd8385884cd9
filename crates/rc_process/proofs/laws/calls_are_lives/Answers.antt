use Rattle.rc_process.proofs.All.{calls-are-lives}
use Rattle.rc_process.proofs.laws.calls_are_lives.Goals as goal

pub returns : goal.returns
returns c = calls-are-lives
