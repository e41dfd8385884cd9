use Rattle.std.proofs.Common.{◌≡◌, ℕ, Bool, ◌||◌, nat_eq, Option, Some, None, refl, sym, ap, ◌∙◌, subst}
use Rattle.std.specs.Option.{IfSome}
use Rattle.rc_model.specs.Model.{Message, NodeName}
use Rattle.rc_world.specs.NodeView.{node_seen}
use Rattle.rc_types.specs.declared.events.NodeWork.TheVariants as work
use Rattle.rc_wire.specs.declared.offer.Offer.{Offer}
use Rattle.rc_wire.specs.SeatView.{SeatData, node_at}
use Rattle.rc_wire.specs.SeatHolds.{SeatSound, seat_data}
use Rattle.rc_wire.specs.Given.{own_number, Does}
use Rattle.rc_wire.specs.Works.{Offers, event_for}
use Rattle.rc_wire.specs.declared.work.Work.TheVariants.{Fetched}
use Rattle.rc_wire.proofs.Preparing.{idle-room, IsOwn, own-held, held-step, sound-delivered, sound-reordered, offers-put}
use Rattle.rc_wire.proofs.seat.Seat.deliver.Goals as goal

pub take-requires-clause-room : goal.take-requires-clause-room
take-requires-clause-room g c =
    let f = c.self.inside in
    idle-room g.N.Naming.wire.setup (seat_data f.name f.token f.held f.pending) f.token.node (node_seen f.state) f.delivered.keys
    c.self.invariant
    (ap (λ (s : SeatData). s.pending) c.self.view_is ∙ c.requires)

pub invariant_of-self : goal.invariant_of-self
invariant_of-self g c =
    let f = c.self.inside in
    sound-reordered g.N.Naming.wire.setup (seat_data f.name f.token f.held f.pending) f.token.node (node_seen f.state) (node_seen f.state)
    f.delivered.keys c.reserve.new.self.keys c.self.invariant refl c.reserve.ensures.keys.2

pub invariant_of-self-in_err-offer : goal.invariant_of-self-in_err-offer
invariant_of-self-in_err-offer g c =
    let f = c.self.inside in
    sound-reordered g.N.Naming.wire.setup (seat_data f.name f.token f.held f.pending) f.token.node (node_seen f.state)
    (node_seen c.take.new.state) f.delivered.keys c.reserve.new.self.keys c.self.invariant c.in_err-offer.ensures.err
    c.reserve.ensures.keys.2

pub invariant_of-self-2 : goal.invariant_of-self-2
invariant_of-self-2 g c =
    let f = c.self.inside in
    let setup = g.N.Naming.wire.setup in
    let d : SeatData = seat_data f.name f.token f.held f.pending in
    let offer : Offer = c.in_ok-offer.offer in
    let o : IsOwn d.name f.held c.in-Some.number =
    own-held d.name f.held c.in-Some.number (sym c.own_number.ensures ∙ c.in-Some.is) in
    let does : Does (node_seen f.state) c.in-Some.number (work.Deliver o.message) offer (node_seen c.take.new.state) =
    subst (λ (h : Option (ℕ × Message)). IfSome h (λ x. Does (node_seen f.state) x.0 (work.Deliver x.1) offer (node_seen c.take.new.state)))
    o.is c.in_ok-offer.ensures.does in
    let noted = λ (n : ℕ). c.note.ensures n ∙ ap (λ (b : Bool). nat_eq n c.in-Some.number || b) (c.reserve.ensures.keys.2 n) in
    let sound : SeatSound setup (seat_data f.name f.token None (Some offer)) f.token.node (node_seen c.take.new.state)
    c.note.new.delivered.keys =
    sound-delivered setup d f.token.node (node_seen f.state) (node_seen c.take.new.state) f.delivered.keys c.note.new.delivered.keys
    c.in-Some.number offer c.self.invariant (ap (λ (s : SeatData). s.pending) c.self.view_is ∙ c.requires) o does noted in
    subst (λ (p : Option Offer). SeatSound setup (seat_data f.name f.token c.let_go.new.held p) f.token.node (node_seen c.take.new.state)
    c.note.new.delivered.keys) (sym c.put.ensures)
    (subst (λ (h : Option (ℕ × Message)). SeatSound setup (seat_data f.name f.token h (Some offer)) f.token.node
    (node_seen c.take.new.state) c.note.new.delivered.keys) (sym c.let_go.ensures) sound)

pub returns-clause-ok : goal.returns-clause-ok
returns-clause-ok g c =
    let f = c.self.inside in
    let setup = g.N.Naming.wire.setup in
    let now = c.args.self.now in
    let offer : Offer = c.in_ok-offer.offer in
    let s : SeatSound setup now f.token.node (node_seen f.state) f.delivered.keys =
    subst (λ (d : SeatData). SeatSound setup d f.token.node (node_seen f.state) f.delivered.keys) c.self.view_is c.self.invariant in
    let same : f.held ≡ now.held = ap (λ (d : SeatData). d.held) c.self.view_is in
    let named : f.name ≡ now.name = ap (λ (d : SeatData). d.name) c.self.view_is in
    let o : IsOwn now.name now.held c.in-Some.number =
    subst (λ (h : Option (ℕ × Message)). IsOwn now.name h c.in-Some.number) same
    (own-held now.name f.held c.in-Some.number
    (sym (c.own_number.ensures ∙ ap (λ (n : NodeName). own_number n f.held) named) ∙ c.in-Some.is)) in
    let does : Does (node_seen f.state) c.in-Some.number (work.Deliver o.message) offer (node_seen c.take.new.state) =
    subst (λ (h : Option (ℕ × Message)). IfSome h (λ x. Does (node_seen f.state) x.0 (work.Deliver x.1) offer (node_seen c.take.new.state)))
    (same ∙ o.is) c.in_ok-offer.ensures.does in
    let step = held-step setup now f.token.node (node_seen f.state) (node_seen c.take.new.state) f.delivered.keys c.in-Some.number offer s
    c.requires o does in
    subst (λ (h : Option (ℕ × Message)). Offers setup now (event_for (node_at setup now) now.held Fetched) None
    (seat_data f.name f.token h c.put.new.place)) (sym c.let_go.ensures)
    (offers-put setup f.name f.token f.held None f.pending c.put.new.place now offer (event_for (node_at setup now) now.held Fetched)
    (node_seen c.take.new.state) c.self.view_is c.put.ensures
    (ap (λ (h : Option (ℕ × Message)). event_for (node_at setup now) h Fetched) o.is ∙ sym (ap Some does.event)) step)
