use Rattle.std.proofs.Common.{sym}
use Rattle.rc_model.specs.Nodes.{takes_if_running}
use Rattle.rc_world.proofs.HostTables.{stepped, left, OnOk-then, OnErr-then}
use Rattle.rc_world.proofs.nodes.Nodes.reach.Goals as goal

pub returns-in-Some-clause-hosts : goal.returns-in-Some-clause-hosts
returns-in-Some-clause-hosts g c =
    OnOk-then c.take.result
    (stepped (λ h. (takes_if_running h h.master c.args.message.now).0) c.args.self.now.setup c.args.self.now.hosts
    (c.get_mut.follows.lender c.take.new.self) c.args.id.index
    c.in-Some.host.now c.take.new.self (sym c.in-Some.ensures.value) (c.get_mut.follows.holds c.take.new.self).3)
    c.take.ensures.state

pub returns-in-Some-clause-err : goal.returns-in-Some-clause-err
returns-in-Some-clause-err g c =
    OnErr-then c.take.result
    (left c.args.self.now.setup c.args.self.now.hosts (c.get_mut.follows.lender c.take.new.self) c.args.id.index
    c.in-Some.host.now c.take.new.self (sym c.in-Some.ensures.value) (c.get_mut.follows.holds c.take.new.self).3)
    c.take.ensures.err
