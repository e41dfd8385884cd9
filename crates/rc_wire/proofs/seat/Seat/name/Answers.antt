use Rattle.std.proofs.Common.{subst}
use Rattle.rc_world.specs.NodeView.{node_seen}
use Rattle.rc_wire.specs.SeatView.{SeatData}
use Rattle.rc_wire.specs.SeatHolds.{seat_data}
use Rattle.rc_wire.specs.SeatCalls.{IsSeat}
use Rattle.rc_wire.proofs.Preparing.{sound-seat}
use Rattle.rc_wire.proofs.seat.Seat.name.Goals as goal

pub returns-clause-seat : goal.returns-clause-seat
returns-clause-seat g c =
    let f = c.self.inside in
    let setup = g.N.Naming.wire.setup in
    subst (λ (s : SeatData). IsSeat setup s) c.self.view_is
    (sound-seat setup (seat_data f.name f.token f.held f.pending) f.token.node (node_seen f.state) f.delivered.keys c.self.invariant)
