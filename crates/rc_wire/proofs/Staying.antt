-- What is true of a seat stays true when it sees more of the history.
use Rattle.std.proofs.Common.{◌≡◌, ℕ, ◌≤◌, List, length, Option, Some, None, slice_get, refl, sym, ap, ◌∙◌, subst}
use Rattle.rc_model.specs.Model.{MAX_EVENTS, Setup, Event, Message, NodeName, Job, delivery, job_of, replay}
use Rattle.rc_types.specs.declared.events.Event.TheVariants as event
use Rattle.rc_history.specs.Nodes.{Node, node_in}
use Rattle.rc_history.specs.Events.{events_of, StartsWith}
use Rattle.rc_history.proofs.Lists.{starts-get}
use Rattle.rc_history.proofs.Longer.{node-stays, longer-sent}
use Rattle.rc_wire.specs.SeatView.{SeatData, Offered, node_at, world_at}
use Rattle.rc_wire.specs.Steps.{IsStep, HasTaken, HoldsItsMessage}
use Rattle.rc_wire.specs.SeatHolds.{SeatSound}
use Rattle.rc_wire.specs.SeatCalls.{having_seen}

delivered-stays : (longer shorter : List Message) (number : ℕ) (job : Job) (found : Option Message) → StartsWith longer shorter →
    slice_get shorter number ≡ found → delivery found ≡ Some job → delivery (slice_get longer number) ≡ Some job
delivered-stays longer shorter number job None starts is given = cc
delivered-stays longer shorter number job (Some message) starts is given = ap delivery
    (starts-get number starts is) ∙ given

-- an event gives its node the same work
job-stays : (longer shorter : List Message) (given : Event) (job : Job) → StartsWith longer shorter →
    job_of shorter given ≡ Some job → job_of longer given ≡ Some job
job-stays longer shorter (event.Deliver number) job starts is =
    delivered-stays longer shorter number job (slice_get shorter number) starts refl is
job-stays longer shorter _ job starts is = is

-- a step of a node is one wherever more was sent
pub step-stays : (longer shorter : List Message) (name : NodeName) (before : Node) (offered : Offered) (after : Node) →
    StartsWith longer shorter → IsStep shorter name before offered after → IsStep longer name before offered after
step-stays longer shorter name before offered after starts s = record {
  work = s.work;
  given = job-stays longer shorter offered.event (record { node = name; work = s.work }) starts s.given;
  can = s.can;
  state = s.state;
  sends = s.sends;
}

taken-stays : (longer shorter : List Message) (name : NodeName) (before : Node) (pending : Option Offered) (after : Node) →
    StartsWith longer shorter → HasTaken shorter name before pending after → HasTaken longer name before pending after
taken-stays longer shorter name before None after starts h = h
taken-stays longer shorter name before (Some offered) after starts h = step-stays longer shorter name before offered after starts h

pub held-stays : (longer shorter : List Message) (held : Option (ℕ × Message)) → StartsWith longer shorter → HoldsItsMessage shorter held →
    HoldsItsMessage longer held
held-stays longer shorter None starts h = tt
held-stays longer shorter (Some held) starts h = starts-get held.0 starts h

-- so it is with a seat that has seen a longer history, in which its node has done nothing more
pub sound-seen : (setup : Setup) (seat : SeatData) (number : ℕ) (node : Node) (numbers : List ℕ) (history : List Event) →
    SeatSound setup seat number node numbers → StartsWith history seat.seen → events_of setup seat.name history ≡ seat.mine →
    length history ≤ MAX_EVENTS → SeatSound setup (having_seen seat history) number node numbers
sound-seen setup seat number node numbers history s starts mine few =
    let more : StartsWith (replay setup history).sent (world_at setup seat).sent = longer-sent setup history seat.seen starts in
    let same : node_in (replay setup history) seat.name ≡ node_at setup seat =
    node-stays setup seat.name history seat.seen starts (mine ∙ sym s.mine) in
    record {
      sits = s.sits;
      few = few;
      mine = mine;
      state = subst (λ (before : Node). HasTaken (replay setup history).sent seat.name before seat.pending node) (sym same)
          (taken-stays (replay setup history).sent (world_at setup seat).sent seat.name (node_at setup seat) seat.pending node
          more s.state);
      held = held-stays (replay setup history).sent (world_at setup seat).sent seat.held more s.held;
      delivered = s.delivered;
    }
