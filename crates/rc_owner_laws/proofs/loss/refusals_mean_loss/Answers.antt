use Rattle.rc_owner_laws.proofs.Refusals.{refusals-mean-loss}
use Rattle.rc_owner_laws.proofs.DecidedLogs.{refused-decides-mean-loss, decides-plan-or-loss}
use Rattle.rc_owner_laws.proofs.Few.{few-drops-are-no-loss, few-missing-are-no-loss}
use Rattle.rc_owner_laws.proofs.loss.refusals_mean_loss.Goals as goal

pub returns-clause-all : goal.returns-clause-all
returns-clause-all c = refusals-mean-loss

pub returns-clause-few : goal.returns-clause-few
returns-clause-few c = few-drops-are-no-loss

pub returns-clause-decides : goal.returns-clause-decides
returns-clause-decides c = refused-decides-mean-loss

pub returns-clause-plans : goal.returns-clause-plans
returns-clause-plans c = decides-plan-or-loss

pub returns-clause-missing : goal.returns-clause-missing
returns-clause-missing c = few-missing-are-no-loss
