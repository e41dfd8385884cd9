use Rattle.rc_owner_laws.proofs.VersionReplays.{data-is-the-plan-cut}
use Rattle.rc_owner_laws.proofs.recovered.data_is_the_plan_cut_to_the_part.Goals as goal

pub returns : goal.returns
returns c = data-is-the-plan-cut
