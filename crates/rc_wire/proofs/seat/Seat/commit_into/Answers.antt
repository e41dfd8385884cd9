use Rattle.std.proofs.Common.{◌≡◌, ◌≤◌, List, [], ◌∷◌, ◌++◌, length, Some, sym, ap, ◌∙◌, subst}
use Rattle.rc_model.specs.Model.{MAX_EVENTS, Event}
use Rattle.rc_world.specs.NodeView.{node_seen}
use Rattle.rc_wire.specs.JournalCalls.{IsStep}
use Rattle.rc_wire.specs.declared.offer.Offer.{Offer}
use Rattle.rc_wire.specs.SeatView.{SeatData, offered_by}
use Rattle.rc_wire.proofs.Offering.{seen_of}
use Rattle.rc_wire.proofs.Committing.{can-push, sound-added}
use Rattle.rc_wire.proofs.seat.Seat.commit_into.Goals as goal

pub push-requires : goal.push-requires
push-requires g c =
    let f = c.self.inside in
    let wire = g.N.Naming.wire in
    let offer : Offer = c.in-Some.field-0 in
    let was : f.pending ≡ Some offer = sym c.take.ensures.value ∙ c.in-Some.is in
    let seen : f.token.seen ≡ c.see.new.journal =
    ap (λ (s : SeatData). s.seen) (c.self.view_is ∙ c.see.ensures.seat) ∙ sym c.see.ensures.journal in
    subst (λ (h : List Event). IsStep wire h f.token offer.event offer.messages.items) seen
    (can-push wire f.name f.token f.held f.pending (node_seen f.state) f.delivered.keys (seen_of offer) c.self.invariant
    (ap offered_by was))

pub invariant_of-self : goal.invariant_of-self
invariant_of-self g c =
    let f = c.self.inside in
    let offer : Offer = c.in-Some.field-0 in
    let was : f.pending ≡ Some offer = sym c.take.ensures.value ∙ c.in-Some.is in
    let seen : f.token.seen ≡ c.see.new.journal =
    ap (λ (s : SeatData). s.seen) (c.self.view_is ∙ c.see.ensures.seat) ∙ sym c.see.ensures.journal in
    let adds = c.in-Ok.ensures.ok in
    let few : length (c.see.new.journal ++ offer.event ∷ []) ≤ MAX_EVENTS =
    subst (λ (h : List Event). length h ≤ MAX_EVENTS) adds.longer adds.history.few in
    sound-added g.N.Naming.wire.setup f.name f.token c.push.new.seat f.held f.pending c.take.new.self (node_seen f.state) f.delivered.keys
    offer
    c.see.new.journal c.self.invariant was c.take.ensures.after seen few adds.seat
