use Rattle.std.proofs.Common.{◌≡◌, ◌↔◌, true, subst, arith}
use Rattle.rc_world.specs.HostView.{HostData, HostHasRoom, host_of}
use Rattle.rc_world.specs.contracts.host.Host.{the_view}
use Rattle.rc_world.proofs.HostSteps.{room-of-running}
use Rattle.rc_world.proofs.host.Host.has_room.Goals as goal

pub returns-in-Some : goal.returns-in-Some
returns-in-Some c =
    subst (λ (host : HostData). (c.has_room.result ≡ true) ↔ HostHasRoom (host_of host)) c.self.view_is
    (room-of-running (the_view c.self.inside) c.in-Some.master c.has_room.result c.in-Some.is (omega arith) c.has_room.ensures)
