-- What a seat does at the journal, said of the seat's fields.
use Rattle.std.proofs.Common.{◌≡◌, ℕ, ◌≤◌, List, [], ◌∷◌, ◌++◌, length, Option, Some, None, sym, ap, ◌∙◌, subst}
use Rattle.std.proofs.lemmas.Bool.{and_parts}
use Rattle.std.proofs.lemmas.List.{append-nil}
use Rattle.rc_model.specs.Model.{MAX_EVENTS, Setup, Event, Message, World, NodeName, opening, replay, is_possible, step, job_of}
use Rattle.rc_model.proofs.Replays.{replay_from-push}
use Rattle.rc_history.specs.Nodes.{Node, node_in}
use Rattle.rc_history.specs.Events.{events_of, is_for}
use Rattle.rc_history.specs.Claims.{NodeTakes}
use Rattle.rc_history.proofs.Lists.{starts-append}
use Rattle.rc_history.proofs.Longer.{events_of-own, longer-sent}
use Rattle.rc_history.proofs.Steps.{node_takes}
use Rattle.rc_wire.specs.declared.view.Place.{Place}
use Rattle.rc_wire.specs.Views.{name_at}
use Rattle.rc_wire.specs.Law.{Knows}
use Rattle.rc_types.specs.Names.{number_of}
use Rattle.rc_wire.specs.Names.{WireName}
use Rattle.rc_wire.specs.JournalCalls as journal
use Rattle.rc_wire.proofs.Named.{named}
use Rattle.rc_wire.specs.declared.offer.Offer.{Offer}
use Rattle.rc_wire.specs.SeatView.{SeatData, Offered, offered_by, offered_events, world_at, node_at}
use Rattle.rc_wire.specs.Steps.{IsStep, HasTaken}
use Rattle.rc_wire.specs.SeatHolds.{SeatSound, seat_data}
use Rattle.rc_wire.specs.Works.{IsOffer, was_delivered}
use Rattle.rc_wire.specs.SeatCalls.{Covers}
use Rattle.rc_wire.proofs.Staying.{sound-seen, held-stays}
use Rattle.rc_wire.proofs.Offering.{seen_of, step-offered}

-- A look

-- the number of a seat is that of its node
own-name : (name : NodeName) (place : Place) → place.node ≡ number_of name → name_at place.node ≡ name
own-name name place sits = ap name_at sits ∙ named name

pub covers-told : (setup : Setup) (name : NodeName) (place : Place) (held : Option (ℕ × Message)) (pending : Option Offer)
    (history : List Event) → place.node ≡ number_of name → Knows setup history place →
    Covers setup history (seat_data name place held pending)
covers-told setup name place held pending history sits knows = record {
  seen = knows.seen;
  mine = ap (λ (n : NodeName). events_of setup n history) (sym (own-name name place sits)) ∙ knows.mine;
}

pub sound-told : (setup : Setup) (name : NodeName) (place after : Place) (held : Option (ℕ × Message)) (pending : Option Offer)
    (node : Node) (numbers : List ℕ) (history : List Event) → SeatSound setup (seat_data name place held pending) place.node node numbers →
    Knows setup history place → length history ≤ MAX_EVENTS → after ≡ journal.having_seen place history →
    SeatSound setup (seat_data name after held pending) after.node node numbers
sound-told setup name place after held pending node numbers history s knows few is =
    let covers : Covers setup history (seat_data name place held pending) =
    covers-told setup name place held pending history s.sits knows in
    subst (λ (p : Place). SeatSound setup (seat_data name p held pending) p.node node numbers) (sym is)
    (sound-seen setup (seat_data name place held pending) place.node node numbers history s covers.seen covers.mine few)

-- A commit

-- what is pending is a step of the node
pending-step : (setup : Setup) (seat : SeatData) (number : ℕ) (node : Node) (numbers : List ℕ) (offered : Offered) →
    SeatSound setup seat number node numbers → seat.pending ≡ Some offered →
    IsStep (world_at setup seat).sent seat.name (node_at setup seat) offered node
pending-step setup seat number node numbers offered s is =
    subst (λ (p : Option Offered). HasTaken (world_at setup seat).sent seat.name (node_at setup seat) p node) is s.state

-- and can be added
pub pending-offer : (setup : Setup) (seat : SeatData) (number : ℕ) (node : Node) (numbers : List ℕ) (offered : Offered) →
    SeatSound setup seat number node numbers → seat.pending ≡ Some offered → IsOffer (world_at setup seat) seat.name offered
pending-offer setup seat number node numbers offered s is =
    step-offered (world_at setup seat) seat.name offered node (pending-step setup seat number node numbers offered s is)

pub can-push : (wire : WireName) (name : NodeName) (place : Place) (held : Option (ℕ × Message)) (pending : Option Offer) (node : Node)
    (numbers : List ℕ) (offered : Offered) → SeatSound wire.setup (seat_data name place held pending) place.node node numbers →
    offered_by pending ≡ Some offered → journal.IsStep wire place.seen place offered.event offered.messages
can-push wire name place held pending node numbers offered s is =
    let o : IsOffer (replay wire.setup place.seen) name offered =
    pending-offer wire.setup (seat_data name place held pending) place.node node numbers offered s is in
    let parts = and_parts (is_possible (replay wire.setup place.seen) offered.event)
    (is_for name (job_of (replay wire.setup place.seen).sent offered.event)) o.takes in
    record {
      possible = parts.0;
      own = ap (λ (n : NodeName). is_for n (job_of (replay wire.setup place.seen).sent offered.event)) (own-name name place s.sits) ∙
          parts.1;
      sends = ap (λ (w : World). w.sent) (replay_from-push (opening wire.setup) place.seen offered.event) ∙ o.sends;
    }

-- the seat after its step was added
pub sound-committed : (setup : Setup) (seat : SeatData) (number : ℕ) (node : Node) (numbers : List ℕ) (offered : Offered) →
    SeatSound setup seat number node numbers → seat.pending ≡ Some offered → length (seat.seen ++ offered.event ∷ []) ≤ MAX_EVENTS →
    SeatSound setup (record seat { seen = seat.seen ++ offered.event ∷ []; mine = seat.mine ++ offered.event ∷ []; pending = None })
    number node numbers
sound-committed setup seat number node numbers offered s is few =
    let world : World = world_at setup seat in
    let name : NodeName = seat.name in
    let longer : List Event = seat.seen ++ offered.event ∷ [] in
    let done : IsStep world.sent name (node_at setup seat) offered node = pending-step setup seat number node numbers offered s is in
    let o : IsOffer world name offered = step-offered world name offered node done in
    let parts = and_parts (is_possible world offered.event) (is_for name (job_of world.sent offered.event)) o.takes in
    let t : NodeTakes world offered.event name done.work = node_takes world offered.event name done.work done.given in
    let there : node_in (replay setup longer) name ≡ node_in (step world offered.event) name =
    ap (λ (w : World). node_in w name) (replay_from-push (opening setup) seat.seen offered.event) in
    record {
      sits = s.sits;
      few = few;
      mine = events_of-own setup name seat.seen offered.event parts.0 parts.1 ∙ ap (λ (l : List Event). l ++ offered.event ∷ []) s.mine;
      state = done.state ∙ sym (there ∙ t.state parts.0);
      held = held-stays (replay setup longer).sent world.sent seat.held
          (longer-sent setup longer seat.seen (starts-append (offered.event ∷ []))) s.held;
      delivered = λ n. s.delivered n ∙ (ap (λ (p : Option Offered). was_delivered (seat.mine ++ offered_events p) n) is
          ∙ ap (λ (l : List Event). was_delivered l n) (sym (append-nil (seat.mine ++ offered.event ∷ []))));
    }

pub sound-added : (setup : Setup) (name : NodeName) (place after : Place) (held : Option (ℕ × Message)) (was now : Option Offer)
    (node : Node)
    (numbers : List ℕ) (offer : Offer) (history : List Event) → SeatSound setup (seat_data name place held was) place.node node numbers →
    was ≡ Some offer → now ≡ None → place.seen ≡ history → length (history ++ offer.event ∷ []) ≤ MAX_EVENTS →
    after ≡ journal.having_added place history offer.event → SeatSound setup (seat_data name after held now) after.node node numbers
sound-added setup name place after held was now node numbers offer history s is gone seen few added =
    let all : length (place.seen ++ offer.event ∷ []) ≤ MAX_EVENTS =
    subst (λ (h : List Event). length (h ++ offer.event ∷ []) ≤ MAX_EVENTS) (sym seen) few in
    let to : after ≡ journal.having_added place place.seen offer.event =
    added ∙ ap (λ (h : List Event). journal.having_added place h offer.event) (sym seen) in
    subst (λ (p : Option Offer). SeatSound setup (seat_data name after held p) after.node node numbers) (sym gone)
    (subst (λ (p : Place). SeatSound setup (seat_data name p held None) p.node node numbers) (sym to)
    (sound-committed setup (seat_data name place held was) place.node node numbers (seen_of offer) s (ap offered_by is) all))
