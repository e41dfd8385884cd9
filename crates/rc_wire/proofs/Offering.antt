-- A step that a node has taken is an event of the world that its seat has seen.
use Rattle.std.proofs.Common.{◌≡◌, ℕ, Bool, true, ◌&&◌, List, ◌++◌, Some, refl, sym, ap, ◌∙◌}
use Rattle.rc_model.specs.Model.{Event, Message, World, NodeName, Job, job_of, is_possible}
use Rattle.rc_history.specs.Nodes.{Node, name_of, node_in, can_take, node_can}
use Rattle.rc_history.specs.Events.{is_for}
use Rattle.rc_history.specs.Claims.{NodeTakes}
use Rattle.rc_history.proofs.Steps.{node_takes}
use Rattle.rc_wire.proofs.Named.{same_node-same}
use Rattle.rc_history.specs.Apart.{WasSent}
use Rattle.rc_history.proofs.Own.{given-job, takes-own}
use Rattle.rc_types.specs.declared.events.NodeWork.{NodeWork}
use Rattle.rc_wire.specs.declared.offer.Offer.{Offer}
use Rattle.rc_wire.specs.SeatView.{Offered}
use Rattle.rc_wire.specs.Steps.{IsStep}
use Rattle.rc_wire.specs.Given.{Does}
use Rattle.rc_wire.specs.Works.{IsOffer}

abbrev pub seen_of : Offer → Offered
seen_of offer = record { event = offer.event; messages = offer.messages.items }

-- what a node has done is a step of it
pub does-step : (sent : List Message) (name : NodeName) (before : Node) (number : ℕ) (given : NodeWork) (offer : Offer) (after : Node) →
    name_of before ≡ name → WasSent sent before number given → node_can before given ≡ true → Does before number given offer after →
    IsStep sent name before (seen_of offer) after
does-step sent name before number given offer after named was can d = record {
  work = given;
  given = ap (job_of sent) d.event ∙ (given-job sent before number given was can
      ∙ ap (λ (n : NodeName). Some (let job : Job = record { node = n; work = given } in job)) named);
  can = ap (λ (e : Event). can_take before e given) d.event ∙ takes-own before number given can;
  state = d.state;
  sends = d.sends;
}

both : (a b : Bool) → a ≡ true → b ≡ true → (a && b) ≡ true
both a b ha hb = rw (ha, hb) refl

-- and a step of it is offered by this world
pub step-offered : (world : World) (name : NodeName) (offered : Offered) (after : Node) →
    IsStep world.sent name (node_in world name) offered after → IsOffer world name offered
step-offered world name offered after s =
    let t : NodeTakes world offered.event name s.work = node_takes world offered.event name s.work s.given in
    let possible : is_possible world offered.event ≡ true = t.possible ∙ s.can in
    record {
      takes = both (is_possible world offered.event) (is_for name (job_of world.sent offered.event)) possible
          (ap (is_for name) s.given ∙ same_node-same name);
      sends = t.sends possible ∙ ap (λ (messages : List Message). world.sent ++ messages) (sym s.sends);
    }
