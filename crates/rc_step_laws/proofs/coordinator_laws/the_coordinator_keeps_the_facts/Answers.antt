use Rattle.rc_step_laws.proofs.CoordinatorSteps.{moved-takes, moved-suspects, moved-decides, moved-creates, moved-splits, moved-ticks}
use Rattle.rc_step_laws.proofs.Attempting.{new-good}
use Rattle.rc_step_laws.proofs.coordinator_laws.the_coordinator_keeps_the_facts.Goals as goal

pub returns : goal.returns
returns c = record {
  takes = moved-takes;
  suspects = moved-suspects;
  decides = moved-decides;
  creates = moved-creates;
  splits = moved-splits;
  ticks = moved-ticks;
  new = new-good;
}
