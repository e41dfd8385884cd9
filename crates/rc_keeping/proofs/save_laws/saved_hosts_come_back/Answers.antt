use Rattle.rc_keeping.proofs.Loaded.{loaded-is-same, loaded-goes-on, hosts-come-back}
use Rattle.rc_keeping.proofs.save_laws.saved_hosts_come_back.Goals as goal

pub returns-clause-same : goal.returns-clause-same
returns-clause-same c = loaded-is-same

pub returns-clause-goes_on : goal.returns-clause-goes_on
returns-clause-goes_on c = loaded-goes-on

pub returns-clause-back : goal.returns-clause-back
returns-clause-back c = hosts-come-back
