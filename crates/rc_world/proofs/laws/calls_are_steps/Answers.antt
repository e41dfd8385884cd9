use Rattle.rc_world.proofs.NodeCalls.{calls-are-steps}
use Rattle.rc_world.proofs.laws.calls_are_steps.Goals as goal

pub returns : goal.returns
returns c = calls-are-steps
