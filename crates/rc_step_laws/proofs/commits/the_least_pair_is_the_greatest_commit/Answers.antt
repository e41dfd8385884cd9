use Rattle.rc_step_laws.proofs.LeastPairs.{least-is-the-greatest-commit}
use Rattle.rc_step_laws.proofs.commits.the_least_pair_is_the_greatest_commit.Goals as goal

pub returns : goal.returns
returns c = least-is-the-greatest-commit
