use Rattle.std.proofs.Common.{refl, sym, ◌∙◌}
use Rattle.rc_types.specs.declared.events.Event.TheVariants as event
use Rattle.rc_model.specs.Model.{coordinator_takes, Deliver, host_step, World, job_done, job_of, coordinator_done, host_done}
use Rattle.rc_coordinator.specs.Book.{coordinator_of}
use Rattle.rc_world.specs.Lending.{message_at}
use Rattle.rc_world.specs.WorldView.{hosts_of, world_of}
use Rattle.rc_world.proofs.HostTables.{OnOk-always}
use Rattle.rc_world.proofs.Deliveries.{to_coordinator, to_server, to_outside, hosts_then, coordinator_then, sent_then}
use Rattle.rc_world.proofs.nodes.Nodes.deliver.Goals as goal

pub returns-in-Coordinator-clause-hosts : goal.returns-in-Coordinator-clause-hosts
returns-in-Coordinator-clause-hosts g c =
    let world : World = world_of c.args.self.now c.args.sent.now.items in
    hosts_then c.deliver_to_coordinator.result (hosts_of c.deliver_to_coordinator.new.self.setup c.deliver_to_coordinator.new.self.hosts)
    (job_done world (event.Deliver c.args.number) (job_of world.sent (event.Deliver c.args.number)))
    (coordinator_done world (event.Deliver c.args.number)
    (coordinator_takes world.coordinator (message_at world.sent c.args.number).from
    (message_at world.sent c.args.number).body))
    (to_coordinator world c.as_slice.result.now c.args.number c.requires.number c.as_slice.ensures.value
    (sym c.address.ensures ∙ c.in-Coordinator.is))
    (OnOk-always c.deliver_to_coordinator.result
    (rw (c.deliver_to_coordinator.ensures.setup, c.deliver_to_coordinator.ensures.hosts) refl))

pub returns-in-Coordinator-clause-coordinator : goal.returns-in-Coordinator-clause-coordinator
returns-in-Coordinator-clause-coordinator g c =
    let world : World = world_of c.args.self.now c.args.sent.now.items in
    coordinator_then c.deliver_to_coordinator.result (coordinator_of c.deliver_to_coordinator.new.self.coordinator)
    (job_done world (event.Deliver c.args.number) (job_of world.sent (event.Deliver c.args.number)))
    (coordinator_done world (event.Deliver c.args.number)
    (coordinator_takes world.coordinator (message_at world.sent c.args.number).from
    (message_at world.sent c.args.number).body))
    (to_coordinator world c.as_slice.result.now c.args.number c.requires.number c.as_slice.ensures.value
    (sym c.address.ensures ∙ c.in-Coordinator.is)) c.deliver_to_coordinator.ensures.coordinator

pub returns-in-Coordinator-clause-sends : goal.returns-in-Coordinator-clause-sends
returns-in-Coordinator-clause-sends g c =
    let world : World = world_of c.args.self.now c.args.sent.now.items in
    sent_then c.deliver_to_coordinator.result c.deliver_to_coordinator.new.sent.items
    (job_done world (event.Deliver c.args.number) (job_of world.sent (event.Deliver c.args.number)))
    (coordinator_done world (event.Deliver c.args.number)
    (coordinator_takes world.coordinator (message_at world.sent c.args.number).from
    (message_at world.sent c.args.number).body))
    (to_coordinator world c.as_slice.result.now c.args.number c.requires.number c.as_slice.ensures.value
    (sym c.address.ensures ∙ c.in-Coordinator.is)) c.deliver_to_coordinator.ensures.sends

pub returns-in-Server-clause-hosts : goal.returns-in-Server-clause-hosts
returns-in-Server-clause-hosts g c =
    let world : World = world_of c.args.self.now c.args.sent.now.items in
    hosts_then c.deliver_to_server.result (hosts_of c.deliver_to_server.new.self.setup c.deliver_to_server.new.self.hosts)
    (job_done world (event.Deliver c.args.number) (job_of world.sent (event.Deliver c.args.number)))
    (host_done world (event.Deliver c.args.number) c.in-Server.id.index
    (host_step (world.hosts c.in-Server.id.index) (Deliver (message_at world.sent c.args.number))))
    (to_server world c.as_slice.result.now c.args.number c.in-Server.id c.requires.number c.as_slice.ensures.value
    (sym c.address.ensures ∙ c.in-Server.is)) c.deliver_to_server.ensures.hosts

pub returns-in-Server-clause-coordinator : goal.returns-in-Server-clause-coordinator
returns-in-Server-clause-coordinator g c =
    let world : World = world_of c.args.self.now c.args.sent.now.items in
    coordinator_then c.deliver_to_server.result (coordinator_of c.deliver_to_server.new.self.coordinator)
    (job_done world (event.Deliver c.args.number) (job_of world.sent (event.Deliver c.args.number)))
    (host_done world (event.Deliver c.args.number) c.in-Server.id.index
    (host_step (world.hosts c.in-Server.id.index) (Deliver (message_at world.sent c.args.number))))
    (to_server world c.as_slice.result.now c.args.number c.in-Server.id c.requires.number c.as_slice.ensures.value
    (sym c.address.ensures ∙ c.in-Server.is))
    (OnOk-always c.deliver_to_server.result (rw c.deliver_to_server.ensures.coordinator refl))

pub returns-in-Server-clause-sends : goal.returns-in-Server-clause-sends
returns-in-Server-clause-sends g c =
    let world : World = world_of c.args.self.now c.args.sent.now.items in
    sent_then c.deliver_to_server.result c.deliver_to_server.new.sent.items
    (job_done world (event.Deliver c.args.number) (job_of world.sent (event.Deliver c.args.number)))
    (host_done world (event.Deliver c.args.number) c.in-Server.id.index
    (host_step (world.hosts c.in-Server.id.index) (Deliver (message_at world.sent c.args.number))))
    (to_server world c.as_slice.result.now c.args.number c.in-Server.id c.requires.number c.as_slice.ensures.value
    (sym c.address.ensures ∙ c.in-Server.is)) c.deliver_to_server.ensures.sends

pub returns-in-Outside-clause-sends : goal.returns-in-Outside-clause-sends
returns-in-Outside-clause-sends g c =
    to_outside (world_of c.args.self.now c.args.sent.now.items) c.as_slice.result.now c.args.number
    c.requires.number c.as_slice.ensures.value (sym c.address.ensures ∙ c.in-Outside.is)
