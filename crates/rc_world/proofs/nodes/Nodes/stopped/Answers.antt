use Rattle.rc_world.proofs.CopiedHosts.{hosts-halted}
use Rattle.rc_world.proofs.nodes.Nodes.stopped.Goals as goal

pub returns-clause-hosts : goal.returns-clause-hosts
returns-clause-hosts g c =
    hosts-halted c.in_ok-try_clone.field-0 c.args.self.now.setup c.in_ok-stopped_hosts.field-0 c.args.self.now.hosts
    c.in_ok-try_clone.ensures c.in_ok-stopped_hosts.ensures
