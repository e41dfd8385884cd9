use Rattle.std.proofs.Common.{List}
use Rattle.rc_model.specs.Model.{Message, coordinator_takes}
use Rattle.rc_coordinator.specs.Book.{coordinator_of}
use Rattle.rc_world.proofs.HostTables.{OnOk-then, OnErr-then}
use Rattle.rc_world.proofs.Lent.{sent_after, sent_nothing}
use Rattle.rc_world.proofs.nodes.Nodes.deliver_to_coordinator.Goals as goal

pub returns-clause-sends : goal.returns-clause-sends
returns-clause-sends g c =
    let F : Message → List Message = λ m. (coordinator_takes (coordinator_of c.args.self.now.coordinator) m.from m.body).1 in
    OnOk-then c.take-done.result
    (λ says. sent_after F c.args.sent.now.items c.lend-message.new.sent.items c.take-done.new.sent.items
    c.put_back.new.sent.items c.args.number c.lend-message.result
    c.requires.number c.lend-message.ensures.message c.lend-message.ensures.left says (c.put_back.ensures))
    c.take-done.ensures.sends

pub returns-clause-unsent : goal.returns-clause-unsent
returns-clause-unsent g c =
    OnErr-then c.take-done.result
    (λ says. sent_nothing c.args.sent.now.items c.lend-message.new.sent.items c.take-done.new.sent.items
    c.put_back.new.sent.items c.args.number c.lend-message.result
    c.lend-message.ensures.message c.lend-message.ensures.left says (c.put_back.ensures))
    c.take-done.ensures.unsent
