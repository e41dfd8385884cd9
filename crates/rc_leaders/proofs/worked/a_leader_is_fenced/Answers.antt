use Rattle.std.proofs.Common.{refl}
use Rattle.rc_leaders.proofs.Run.{it-may-come}
use Rattle.rc_leaders.proofs.worked.a_leader_is_fenced.Goals as goal

pub returns : goal.returns
returns c = record {
  may = it-may-come;
  told = refl;
  fenced = record { done = refl; behind = refl };
  back = record { leads = refl; epoch = refl; journal = refl };
  one = refl;
}
