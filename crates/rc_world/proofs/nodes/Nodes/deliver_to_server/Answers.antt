use Rattle.std.proofs.Common.{List}
use Rattle.rc_model.specs.Model.{Message, takes_if_running}
use Rattle.rc_world.specs.WorldView.{hosts_of}
use Rattle.rc_world.proofs.HostTables.{OnOk-then, OnErr-then}
use Rattle.rc_world.proofs.Lent.{sent_after, sent_nothing}
use Rattle.rc_world.proofs.nodes.Nodes.deliver_to_server.Goals as goal

pub returns-clause-sends : goal.returns-clause-sends
returns-clause-sends g c =
    let F : Message → List Message = λ m.
    (takes_if_running (hosts_of c.args.self.now.setup c.args.self.now.hosts c.args.id.index)
    (hosts_of c.args.self.now.setup c.args.self.now.hosts c.args.id.index).master m).1 in
    OnOk-then c.reach-done.result
    (λ says. sent_after F c.args.sent.now.items c.lend-message.new.sent.items c.reach-done.new.sent.items
    c.put_back.new.sent.items c.args.number c.lend-message.result
    c.requires.number c.lend-message.ensures.message c.lend-message.ensures.left says (c.put_back.ensures))
    c.reach-done.ensures.sends

pub returns-clause-unsent : goal.returns-clause-unsent
returns-clause-unsent g c =
    OnErr-then c.reach-done.result
    (λ says. sent_nothing c.args.sent.now.items c.lend-message.new.sent.items c.reach-done.new.sent.items
    c.put_back.new.sent.items c.args.number c.lend-message.result
    c.lend-message.ensures.message c.lend-message.ensures.left says (c.put_back.ensures))
    c.reach-done.ensures.unsent
