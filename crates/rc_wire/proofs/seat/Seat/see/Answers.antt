use Rattle.rc_world.specs.NodeView.{node_seen}
use Rattle.rc_wire.proofs.Committing.{sound-told}
use Rattle.rc_wire.proofs.seat.Seat.see.Goals as goal

pub invariant_of-self : goal.invariant_of-self
invariant_of-self g c =
    let f = c.self.inside in
    sound-told g.N.Naming.wire.setup f.name f.token c.look.new.seat f.held f.pending (node_seen f.state) f.delivered.keys c.args.journal.now
    c.self.invariant c.look.ensures.tells.knows c.look.ensures.tells.history.few c.look.ensures.seat
