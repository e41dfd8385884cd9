-- A call of a node that runs apart is a step of a history.
use Rattle.std.proofs.Common.{refl}
use Rattle.rc_history.specs.Apart.{sent_by}
use Rattle.rc_history.proofs.Own.{given-job, takes-own}
use Rattle.rc_world.specs.NodeCalls.{CallsAreSteps}

pub calls-are-steps : CallsAreSteps
calls-are-steps setup earlier node number given left was can = record {
  given = given-job (sent_by earlier) node number given was can;
  before = left;
  can = takes-own node number given can;
  state = refl;
  sends = refl;
}
