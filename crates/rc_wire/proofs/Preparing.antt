-- What `prepare` does, said of a seat's fields.
use Rattle.std.proofs.Common.{◌≡◌, ◌↔◌, ℕ, Bool, true, false, true≢false, ◌||◌, cond, nat_eq, List, [], ◌∷◌, ◌++◌, Option, Some, None}
use Rattle.std.proofs.Common.{Result, Ok, Err, slice_get, refl, sym, ap, ◌∙◌, subst}
use Rattle.std.specs.List.{list_any}
use Rattle.std.specs.Option.{IfSome}
use Rattle.rc_model.specs.Model.{Fault, Setup, Event, Message, NodeName, same_node, node_of}
use Rattle.rc_types.specs.declared.faults.Fault.TheVariants.{BadEvent}
use Rattle.rc_model.proofs.Ids.{same_node-true}
use Rattle.rc_history.specs.Nodes.{Node, TheOutside, TheCoordinator, TheHost, name_of, event_of, node_can}
use Rattle.rc_history.specs.Events.{takes}
use Rattle.rc_history.proofs.Names.{names-kept}
use Rattle.rc_wire.specs.declared.view.Place.{Place}
use Rattle.rc_world.specs.NodeView.{NodeHasRoom}
use Rattle.rc_history.specs.Apart.{WasSent}
use Rattle.rc_world.proofs.Rooms.{histories-leave-room}
use Rattle.rc_types.specs.declared.events.NodeWork.{NodeWork}
use Rattle.rc_types.specs.declared.events.NodeWork.TheVariants as work
use Rattle.rc_wire.specs.declared.offer.Offer.{Offer}
use Rattle.rc_wire.specs.SeatView.{SeatData, Offered, world_at, node_at, offered_events}
use Rattle.rc_wire.specs.Steps.{IsStep, HasTaken, HoldsItsMessage}
use Rattle.rc_wire.specs.SeatHolds.{SeatSound, seat_data}
use Rattle.rc_wire.specs.Given.{is_delivery, own_number, Does}
use Rattle.rc_wire.specs.Works.{IsOffer, Offers, was_delivered}
use Rattle.rc_wire.specs.SeatCalls.{IsSeat}
use Rattle.rc_wire.proofs.Taking.{takes-given}
use Rattle.rc_wire.proofs.Offering.{seen_of, does-step, step-offered}
use Rattle.rc_wire.proofs.Noting.{given-noted, message-noted}

-- Where nothing is pending

pub idle-node : (setup : Setup) (seat : SeatData) (number : ℕ) (node : Node) (numbers : List ℕ) → SeatSound setup seat number node numbers →
    seat.pending ≡ None → node ≡ node_at setup seat
idle-node setup seat number node numbers s idle =
    subst (λ (p : Option Offered). HasTaken (world_at setup seat).sent seat.name (node_at setup seat) p node) idle s.state

pub idle-room : (setup : Setup) (seat : SeatData) (number : ℕ) (node : Node) (numbers : List ℕ) → SeatSound setup seat number node numbers →
    seat.pending ≡ None → NodeHasRoom node
idle-room setup seat number node numbers s idle =
    subst (λ (n : Node). NodeHasRoom n) (sym (idle-node setup seat number node numbers s idle))
    (histories-leave-room setup seat.seen seat.name s.few)

pub idle-name : (setup : Setup) (seat : SeatData) (number : ℕ) (node : Node) (numbers : List ℕ) → SeatSound setup seat number node numbers →
    seat.pending ≡ None → name_of node ≡ seat.name
idle-name setup seat number node numbers s idle =
    ap name_of (idle-node setup seat number node numbers s idle) ∙ names-kept setup seat.seen seat.name

idle-noted : (setup : Setup) (seat : SeatData) (number : ℕ) (node : Node) (numbers : List ℕ) → SeatSound setup seat number node numbers →
    seat.pending ≡ None → (n : ℕ) → list_any (nat_eq n) numbers ≡ was_delivered (seat.mine ++ []) n
idle-noted setup seat number node numbers s idle n =
    s.delivered n ∙ ap (λ (p : Option Offered). was_delivered (seat.mine ++ offered_events p) n) idle

-- A work that is no delivery

pub give-takes : (setup : Setup) (seat : SeatData) (number : ℕ) (node : Node) (numbers : List ℕ) (given : NodeWork) →
    SeatSound setup seat number node numbers → seat.pending ≡ None → is_delivery given ≡ false →
    takes seat.name (world_at setup seat) (event_of (node_at setup seat) 0 given) ≡ node_can node given
give-takes setup seat number node numbers given s idle none =
    takes-given (world_at setup seat) seat.name 0 given (names-kept setup seat.seen seat.name) none
    ∙ ap (λ (n : Node). node_can n given) (sym (idle-node setup seat number node numbers s idle))

nothing-sent : (sent : List Message) (node : Node) (given : NodeWork) → is_delivery given ≡ false → WasSent sent node 0 given
nothing-sent sent node (work.Deliver message) is = let no : true ≡ false = is in absurd (true≢false no)
nothing-sent sent node _ is = tt

pub given-step : (setup : Setup) (seat : SeatData) (number : ℕ) (node after : Node) (numbers : List ℕ) (given : NodeWork) (offer : Offer) →
    SeatSound setup seat number node numbers → seat.pending ≡ None → is_delivery given ≡ false → node_can node given ≡ true →
    Does node 0 given offer after → IsStep (world_at setup seat).sent seat.name (node_at setup seat) (seen_of offer) after
given-step setup seat number node after numbers given offer s idle none can d =
    let sent : List Message = (world_at setup seat).sent in
    subst (λ (n : Node). IsStep sent seat.name n (seen_of offer) after) (idle-node setup seat number node numbers s idle)
    (does-step sent seat.name node 0 given offer after (idle-name setup seat number node numbers s idle)
    (nothing-sent sent node given none) can d)

-- The message that is held

takes-messages : (node : Node) (message : Message) → node_can node (work.Deliver message) ≡ true
takes-messages TheOutside message = refl
takes-messages (TheCoordinator c) message = refl
takes-messages (TheHost host) message = refl

-- the message is this one, is to this node, and has this number
pub record IsOwn (name : NodeName) (held : Option (ℕ × Message)) (number : ℕ) : Type 0 where
  pub message : Message
  pub is : held ≡ Some (number, message)
  pub own : same_node (node_of message.to) name ≡ true

own-by : (b : Bool) (h : ℕ × Message) (number : ℕ) → cond b (Some h.0) None ≡ Some number → (b ≡ true) × (h ≡ (number, h.1))
own-by true h number e = (refl, let n : h.0 ≡ number = cc in ap (λ k. (k, h.1)) n)
own-by false h number e = let no : None ≡ Some number = e in cc

pub own-held : (name : NodeName) (held : Option (ℕ × Message)) (number : ℕ) → own_number name held ≡ Some number → IsOwn name held number
own-held name None number e = let no : None ≡ Some number = e in absurd cc
own-held name (Some h) number e =
    let parts = own-by (same_node (node_of h.1.to) name) h number e in
    record { message = h.1; is = ap Some parts.1; own = parts.0 }

pub held-step : (setup : Setup) (seat : SeatData) (number : ℕ) (node after : Node) (numbers : List ℕ) (k : ℕ) (offer : Offer) →
    SeatSound setup seat number node numbers → seat.pending ≡ None → (o : IsOwn seat.name seat.held k) →
    Does node k (work.Deliver o.message) offer after →
    IsStep (world_at setup seat).sent seat.name (node_at setup seat) (seen_of offer) after
held-step setup seat number node after numbers k offer s idle o d =
    let sent : List Message = (world_at setup seat).sent in
    let named : name_of node ≡ seat.name = idle-name setup seat number node numbers s idle in
    let found : slice_get sent k ≡ Some o.message = subst (λ (h : Option (ℕ × Message)). HoldsItsMessage sent h) o.is s.held in
    let addressed : node_of o.message.to ≡ name_of node = same_node-true (node_of o.message.to) seat.name o.own ∙ sym named in
    subst (λ (n : Node). IsStep sent seat.name n (seen_of offer) after) (idle-node setup seat number node numbers s idle)
    (does-step sent seat.name node k (work.Deliver o.message) offer after named (found, addressed)
    (takes-messages node o.message) d)

-- The seat after it

-- a step that the node has taken is offered, and this is held
pub sound-offered : (setup : Setup) (seat : SeatData) (number : ℕ) (node after : Node) (numbers noted : List ℕ) (offer : Offer)
    (held : Option (ℕ × Message)) → SeatSound setup seat number node numbers →
    IsStep (world_at setup seat).sent seat.name (node_at setup seat) (seen_of offer) after →
    HoldsItsMessage (world_at setup seat).sent held →
    ((n : ℕ) → list_any (nat_eq n) noted ≡ was_delivered (seat.mine ++ offer.event ∷ []) n) →
    SeatSound setup (record seat { held = held; pending = Some (seen_of offer) }) number after noted
sound-offered setup seat number node after numbers noted offer held s step holds all = record {
  sits = s.sits;
  few = s.few;
  mine = s.mine;
  state = step;
  held = holds;
  delivered = all;
}

pub sound-given : (setup : Setup) (seat : SeatData) (number : ℕ) (node after : Node) (numbers : List ℕ) (given : NodeWork) (offer : Offer) →
    SeatSound setup seat number node numbers → seat.pending ≡ None → is_delivery given ≡ false → node_can node given ≡ true →
    Does node 0 given offer after → SeatSound setup (record seat { pending = Some (seen_of offer) }) number after numbers
sound-given setup seat number node after numbers given offer s idle none can d =
    sound-offered setup seat number node after numbers numbers offer seat.held s
    (given-step setup seat number node after numbers given offer s idle none can d) s.held
    (given-noted numbers seat.mine offer.event node given none d.event (idle-noted setup seat number node numbers s idle))

pub sound-delivered : (setup : Setup) (seat : SeatData) (number : ℕ) (node after : Node) (numbers noted : List ℕ) (k : ℕ) (offer : Offer) →
    SeatSound setup seat number node numbers → seat.pending ≡ None → (o : IsOwn seat.name seat.held k) →
    Does node k (work.Deliver o.message) offer after →
    ((n : ℕ) → list_any (nat_eq n) noted ≡ (nat_eq n k || list_any (nat_eq n) numbers)) →
    SeatSound setup (record seat { held = None; pending = Some (seen_of offer) }) number after noted
sound-delivered setup seat number node after numbers noted k offer s idle o d all =
    sound-offered setup seat number node after numbers noted offer None s
    (held-step setup seat number node after numbers k offer s idle o d) tt
    (message-noted numbers noted seat.mine offer.event k d.event all (idle-noted setup seat number node numbers s idle))

-- the numbers may stand in another order
pub sound-reordered : (setup : Setup) (seat : SeatData) (number : ℕ) (node after : Node) (numbers others : List ℕ) →
    SeatSound setup seat number node numbers → after ≡ node →
    ((n : ℕ) → list_any (nat_eq n) others ≡ list_any (nat_eq n) numbers) → SeatSound setup seat number after others
sound-reordered setup seat number node after numbers others s stays same = record {
  sits = s.sits;
  few = s.few;
  mine = s.mine;
  state = subst (λ (n : Node). HasTaken (world_at setup seat).sent seat.name (node_at setup seat) seat.pending n)
      (sym stays) s.state;
  held = s.held;
  delivered = λ n. same n ∙ s.delivered n;
}

-- What the clauses say

-- an offer that was put where there was none
pub offers-put : (setup : Setup) (name : NodeName) (place : Place) (held kept : Option (ℕ × Message)) (was is : Option Offer)
    (old : SeatData) (offer : Offer) (said : Option Event) (after : Node) → seat_data name place held was ≡ old → is ≡ Some offer →
    said ≡ Some offer.event → IsStep (world_at setup old).sent old.name (node_at setup old) (seen_of offer) after →
    Offers setup old said kept (seat_data name place kept is)
offers-put setup name place held kept was is old offer said after viewed put event step = record {
  offered = seen_of offer;
  event = event;
  step = step-offered (world_at setup old) old.name (seen_of offer) after step;
  after = ap (seat_data name place kept) put
      ∙ ap (λ (s : SeatData). record s { held = kept; pending = Some (seen_of offer) }) viewed;
}

-- a refusal is passed on
pub bad-passed : {A B : Type 0} (r : Result A Fault) (out : Result B Fault) (fault : Fault) (may can : Bool) → r ≡ Err fault →
    out ≡ Err fault → ((r ≡ Err BadEvent) ↔ (may ≡ false)) → can ≡ may → ((out ≡ Err BadEvent) ↔ (can ≡ false))
bad-passed r out fault may can is gives h same = (
  λ e. same ∙ h.0 (let f : fault ≡ BadEvent = cc in is ∙ ap Err f),
  λ e. let back : r ≡ Err BadEvent = h.1 (sym same ∙ e) in let f : fault ≡ BadEvent = cc in gives ∙ ap Err f,
)

-- what was not refused could be done
pub not-bad : {A : Type 0} (r : Result A Fault) (x : A) (may : Bool) → r ≡ Ok x → ((r ≡ Err BadEvent) ↔ (may ≡ false)) → may ≡ true
not-bad r x true is h = refl
not-bad r x false is h = let bad : r ≡ Err BadEvent = h.1 refl in cc

pub ok-not-bad : {A B : Type 0} (r : Result A Fault) (out : Result B Fault) (x : A) (y : B) (may can : Bool) → r ≡ Ok x → out ≡ Ok y →
    ((r ≡ Err BadEvent) ↔ (may ≡ false)) → can ≡ may → ((out ≡ Err BadEvent) ↔ (can ≡ false))
ok-not-bad r out x y may can is gives h same =
    (λ e. cc, λ e. let bad : r ≡ Err BadEvent = h.1 (sym same ∙ e) in cc)

-- What is true of each seat

offers-pending : (setup : Setup) (seat : SeatData) (node : Node) (pending : Option Offered) →
    HasTaken (world_at setup seat).sent seat.name (node_at setup seat) pending node →
    IfSome pending (IsOffer (world_at setup seat) seat.name)
offers-pending setup seat node None taken = tt
offers-pending setup seat node (Some offered) taken = step-offered (world_at setup seat) seat.name offered node taken

pub sound-seat : (setup : Setup) (seat : SeatData) (number : ℕ) (node : Node) (numbers : List ℕ) →
    SeatSound setup seat number node numbers →
    IsSeat setup seat
sound-seat setup seat number node numbers s = record {
  few = s.few;
  mine = s.mine;
  pending = offers-pending setup seat node seat.pending s.state;
  held = s.held;
}
