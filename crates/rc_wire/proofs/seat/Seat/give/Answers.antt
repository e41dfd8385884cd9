use Rattle.std.proofs.Common.{ℕ, Option, Some, Ok, Err, refl, sym, ap, ◌∙◌, subst}
use Rattle.std.proofs.lemmas.Result.{err_from_is_err_and}
use Rattle.rc_types.specs.declared.messages.Message.{Message}
use Rattle.rc_history.specs.Nodes.{Node, event_of, node_can}
use Rattle.rc_history.specs.Events.{takes}
use Rattle.rc_wire.specs.declared.offer.Offer.{Offer}
use Rattle.rc_wire.specs.SeatView.{SeatData, world_at, node_at}
use Rattle.rc_wire.specs.SeatHolds.{SeatSound, seat_data}
use Rattle.rc_wire.specs.Works.{Offers}
use Rattle.rc_world.specs.NodeView.{node_seen}
use Rattle.rc_wire.proofs.Preparing.{idle-room, idle-name, idle-node, give-takes, sound-given, given-step}
use Rattle.rc_wire.proofs.Preparing.{offers-put, bad-passed, not-bad, ok-not-bad}
use Rattle.rc_wire.proofs.seat.Seat.give.Goals as goal

pub give-requires-clause-room : goal.give-requires-clause-room
give-requires-clause-room g c =
    let f = c.self.inside in
    idle-room g.N.Naming.wire.setup (seat_data f.name f.token f.held f.pending) f.token.node (node_seen f.state) f.delivered.keys
    c.self.invariant
    (ap (λ (s : SeatData). s.pending) c.self.view_is ∙ c.requires.idle)

pub give-requires-clause-name : goal.give-requires-clause-name
give-requires-clause-name g c =
    let f = c.self.inside in
    idle-name g.N.Naming.wire.setup (seat_data f.name f.token f.held f.pending) f.token.node (node_seen f.state) f.delivered.keys
    c.self.invariant
    (ap (λ (s : SeatData). s.pending) c.self.view_is ∙ c.requires.idle)

pub returns-in_err-offer-clause-bad : goal.returns-in_err-offer-clause-bad
returns-in_err-offer-clause-bad g c =
    let f = c.self.inside in
    let setup = g.N.Naming.wire.setup in
    let now = c.args.self.now in
    let s : SeatSound setup now f.token.node (node_seen f.state) f.delivered.keys =
    subst (λ (d : SeatData). SeatSound setup d f.token.node (node_seen f.state) f.delivered.keys) c.self.view_is c.self.invariant in
    let p = err_from_is_err_and c.from_residual.result c.from_residual.ensures.1 in
    bad-passed c.give.result c.from_residual.result c.in_err-offer.field-0.0 (node_can (node_seen f.state) c.args.given)
    (takes now.name (world_at setup now) (event_of (node_at setup now) 0 c.args.given)) c.in_err-offer.was (p.1 ∙ ap Err p.2)
    c.give.ensures.bad
    (give-takes setup now f.token.node (node_seen f.state) f.delivered.keys c.args.given s c.requires.idle c.requires.given)

pub invariant_of-self-2 : goal.invariant_of-self-2
invariant_of-self-2 g c =
    let f = c.self.inside in
    let setup = g.N.Naming.wire.setup in
    let d : SeatData = seat_data f.name f.token f.held f.pending in
    let offer : Offer = c.in_ok-offer.offer in
    let after = node_seen c.give.new.state in
    subst (λ (p : Option Offer). SeatSound setup (seat_data f.name f.token f.held p) f.token.node after f.delivered.keys)
    (sym c.put.ensures)
    (sound-given setup d f.token.node (node_seen f.state) (node_seen c.give.new.state) f.delivered.keys c.args.given offer c.self.invariant
    (ap (λ (s : SeatData). s.pending) c.self.view_is ∙ c.requires.idle) c.requires.given
    (not-bad c.give.result offer (node_can (node_seen f.state) c.args.given) c.in_ok-offer.was c.give.ensures.bad)
    c.in_ok-offer.ensures.does)

pub returns-clause-ok : goal.returns-clause-ok
returns-clause-ok g c =
    let f = c.self.inside in
    let setup = g.N.Naming.wire.setup in
    let now = c.args.self.now in
    let offer : Offer = c.in_ok-offer.offer in
    let s : SeatSound setup now f.token.node (node_seen f.state) f.delivered.keys =
    subst (λ (d : SeatData). SeatSound setup d f.token.node (node_seen f.state) f.delivered.keys) c.self.view_is c.self.invariant in
    let step = given-step setup now f.token.node (node_seen f.state) (node_seen c.give.new.state) f.delivered.keys c.args.given offer s
    c.requires.idle c.requires.given
    (not-bad c.give.result offer (node_can (node_seen f.state) c.args.given) c.in_ok-offer.was c.give.ensures.bad)
    c.in_ok-offer.ensures.does in
    let node = idle-node setup now f.token.node (node_seen f.state) f.delivered.keys s c.requires.idle in
    subst (λ (h : Option (ℕ × Message)). Offers setup now (Some (event_of (node_at setup now) 0 c.args.given)) h
    (seat_data f.name f.token f.held c.put.new.place)) (ap (λ (d : SeatData). d.held) c.self.view_is)
    (offers-put setup f.name f.token f.held f.held f.pending c.put.new.place now offer
    (Some (event_of (node_at setup now) 0 c.args.given)) (node_seen c.give.new.state) c.self.view_is c.put.ensures
    (ap (λ (n : Node). Some (event_of n 0 c.args.given)) (sym node) ∙ sym (ap Some c.in_ok-offer.ensures.does.event)) step)

pub returns-clause-bad : goal.returns-clause-bad
returns-clause-bad g c =
    let f = c.self.inside in
    let setup = g.N.Naming.wire.setup in
    let now = c.args.self.now in
    let s : SeatSound setup now f.token.node (node_seen f.state) f.delivered.keys =
    subst (λ (d : SeatData). SeatSound setup d f.token.node (node_seen f.state) f.delivered.keys) c.self.view_is c.self.invariant in
    ok-not-bad c.give.result (Ok tt) c.in_ok-offer.offer tt (node_can (node_seen f.state) c.args.given)
    (takes now.name (world_at setup now) (event_of (node_at setup now) 0 c.args.given)) c.in_ok-offer.was refl c.give.ensures.bad
    (give-takes setup now f.token.node (node_seen f.state) f.delivered.keys c.args.given s c.requires.idle c.requires.given)
