-- What a client sends is sent alone: when it was sent, an event had just ended.
use Rattle.std.proofs.Common.{◌≡◌, ◌⊎◌, ℕ, ◌+◌, ◌<◌, List, [], ◌∷◌, ◌++◌, length, take, Option, Some, None, slice_get}
use Rattle.std.proofs.Common.{refl, sym, ap, ◌∙◌, subst, inl, inr, arith}
use Rattle.std.proofs.lemmas.List.{append-nil, append_assoc, take-append-le, take_all}
use Rattle.rc_model.specs.Model.{ServerId, Addr, Server, Outside, Setup, Event, Message, Enlist, to_coordinator, NodeWork, outside_sends}
use Rattle.rc_model.specs.Model.{coordinator_step, host_step, next_server, World, opening, NodeName, TheOutside, TheCoordinator}
use Rattle.rc_model.specs.Model.{TheHost, Job, job_of, node_done, job_done, step, replay, In}
use Rattle.rc_types.specs.declared.ids.Addr.TheVariants.{Coordinator as AtCoordinator}
use Rattle.rc_model.specs.Nodes.{Ask}
use Rattle.rc_model.proofs.Members.{In-get}
use Rattle.rc_model.proofs.Replays.{replay_from-push}
use Rattle.rc_step_laws.proofs.Lists.{get-within, get-append}
use Rattle.rc_step_laws.proofs.EachMaster.{coordinator-from}
use Rattle.rc_step_laws.proofs.NodeWalk.{said-host}
use Rattle.rc_step_laws.proofs.Replays.{GoodWorld, IsGiven, job_of-given, good-world}

-- the list has one message, or none of the outside
abbrev IsAlone : List Message → Type 0
IsAlone messages = ((one : Message) × (messages ≡ one ∷ []))
    ⊎ ((message : Message) → In message messages → message.from ≡ Outside → ⊥)

none-alone : IsAlone []
none-alone = inr (λ message at. absurd at)

from-server : {m : ServerId} {from : Addr} → from ≡ Server m → from ≡ Outside → ⊥
from-server {m} a b = (let e : ◌≡◌ {A = Addr} (Server m) Outside = sym a ∙ b in cc)

from-coordinator : {from : Addr} → from ≡ AtCoordinator → from ≡ Outside → ⊥
from-coordinator a b = (let e : ◌≡◌ {A = Addr} AtCoordinator Outside = sym a ∙ b in cc)

outside-alone : (work : NodeWork) → IsAlone (outside_sends work)
outside-alone (Ask to body) = inl (record { from = Outside; to = Server to; body = body }, refl)
outside-alone _ = none-alone

-- A host's step

alone-host : (world : World) (one : Event) (i : ℕ) → GoodWorld world → (work : NodeWork) → IsGiven world.sent (TheHost i) work →
    IsAlone (host_step (world.hosts i) work).1
alone-host world one i good work given = said-host world one i good IsAlone (record {
  none = none-alone;
  backs = λ after moved. inr (λ message at. from-server (moved.from message at));
  moves = λ master after moved. inr (λ message at. from-server (moved.says message at).from);
  starts = inl (to_coordinator (next_server (world.hosts i)) Enlist, refl);
}) work given

-- Events

record Adds (world after : World) : Type 0 where
  messages : List Message
  grows : after.sent ≡ world.sent ++ messages
  alone : IsAlone messages

adds-node : {world : World} (one : Event) (node : NodeName) (work : NodeWork) → GoodWorld world → IsGiven world.sent node work →
    Adds world (node_done world one node work)
adds-node one TheOutside work good given = record { messages = outside_sends work; grows = refl; alone = outside-alone work }
adds-node {world} one TheCoordinator work good given = record {
  messages = (coordinator_step world.coordinator work).1;
  grows = refl;
  alone = inr (λ message at. from-coordinator (coordinator-from world work good given message at));
}
adds-node {world} one (TheHost i) work good given = record
    { messages = (host_step (world.hosts i) work).1; grows = refl; alone = alone-host world one i good work given }

adds-none : {world : World} → Adds world world
adds-none {world} = record { messages = []; grows = sym (append-nil world.sent); alone = none-alone }

adds-job : {world : World} (one : Event) (found : Option Job) → job_of world.sent one ≡ found → GoodWorld world →
    Adds world (job_done world one found)
adds-job one None is good = adds-none
adds-job {world} one (Some job) is good = adds-node one job.node job.work good (job_of-given world.sent one is)

adds-step : {world : World} (one : Event) → GoodWorld world → Adds world (step world one)
adds-step {world} one good = search (arith, adds-job, adds-none)

-- Every list of events

-- all that was sent before the message of this number was sent in these first events
pub record IsEnd (setup : Setup) (events : List Event) (n : ℕ) : Type 0 where
  pub early : List Event
  pub since : List Event
  pub whole : early ++ since ≡ events
  pub sent_is : (replay setup early).sent ≡ take n (replay setup events).sent

abbrev AllEnd : Setup → List Event → Type 0
AllEnd setup events = (n : ℕ) (message : Message) → slice_get (replay setup events).sent n ≡ Some message → message.from ≡ Outside →
    IsEnd setup events n

end-one : {setup : Setup} {past : List Event} (one : Event) → AllEnd setup past → AllEnd setup (past ++ one ∷ [])
end-one {setup} {past} one p n message e from =
    by (get-append (replay setup past).sent new.messages n (ap (λ l. slice_get l n) (sym grows) ∙ e))
  where
    new : Adds (replay setup past) (step (replay setup past) one)
    new = adds-step one (good-world setup past)

    grows : (replay setup (past ++ one ∷ [])).sent ≡ (replay setup past).sent ++ new.messages
    grows = ap (λ (world : World). world.sent) (replay_from-push (opening setup) past one) ∙ new.grows

    single : (k : ℕ) → slice_get new.messages k ≡ Some message → IsAlone new.messages → k ≡ 0
    single k at (inl (only, is)) = (let less : k < length new.messages = get-within new.messages k at in
        let long : length new.messages ≡ 1 = ap length is in omega (arith, less, long))
    single k at (inr none) = absurd (none message (In-get new.messages k message at) from)

    by : (slice_get (replay setup past).sent n ≡ Some message)
        ⊎ ((k : ℕ) × (n ≡ length (replay setup past).sent + k) × (slice_get new.messages k ≡ Some message)) →
        IsEnd setup (past ++ one ∷ []) n
    by (inl is) =
        let less : n < length (replay setup past).sent = get-within (replay setup past).sent n is in
        let was : IsEnd setup past n = p n message is from in
        record {
          early = was.early;
          since = was.since ++ one ∷ [];
          whole = sym (append_assoc was.early was.since (one ∷ [])) ∙ ap (λ l. l ++ one ∷ []) was.whole;
          sent_is = was.sent_is ∙ sym (take-append-le n (replay setup past).sent new.messages (omega (arith, less)))
              ∙ ap (take n) (sym grows);
        }
    by (inr (k, same, is)) = search (arith, single, new, take_all, take-append-le, grows)

end-more : {setup : Setup} {past : List Event} (events : List Event) → AllEnd setup past → AllEnd setup (past ++ events)
end-more {setup} {past} [] p = subst (AllEnd setup) (sym (append-nil past)) p
end-more {setup} {past} (one ∷ events) p =
    subst (AllEnd setup) (append_assoc past (one ∷ []) events) (end-more events (end-one one p))

pub requests-end : {setup : Setup} {events : List Event} (n : ℕ) (message : Message) →
    slice_get (replay setup events).sent n ≡ Some message → message.from ≡ Outside → IsEnd setup events n
requests-end {setup} {events} = end-more {setup = setup} {past = []} events
    (λ n message e from. (let never : slice_get [] n ≡ Some message = e in cc))
