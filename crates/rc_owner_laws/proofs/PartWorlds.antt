-- What holds of each master's parts holds of every world that a list of events leads to.
use Rattle.std.proofs.Common.{arith}
use Rattle.std.proofs.Common.{◌≡◌, ◌⊎◌, ℕ, List, [], ◌∷◌, ◌++◌, refl, sym, ap, ◌∙◌, subst, inl, inr, true}
use Rattle.rc_model.specs.Model.{ServerId, Addr, Server, Part, Grant, Setup, Event, Message, Body, to_coordinator, PartState}
use Rattle.rc_model.specs.Model.{Master, own_body, master_setup, World, opening, step, replay_from, replay}
use Rattle.rc_model.specs.Model.{In}
use Rattle.rc_types.specs.declared.messages.Body.TheVariants as body
use Rattle.rc_model.proofs.Members.{In-append}
use Rattle.rc_step_laws.specs.Facts.{GoodMaster}
use Rattle.rc_step_laws.proofs.Rolling.{writing-is}
use Rattle.rc_step_laws.proofs.Replays.{GoodWorld, good-world}
use Rattle.rc_step_laws.proofs.Since.{replay_from-append}
use Rattle.rc_owner_laws.specs.Grants.{IsOwn, IsPlanOf}
use Rattle.rc_owner_laws.proofs.OwnerReplays.{OfWorld, grants-world}
use Rattle.rc_owner_laws.specs.Terms.{IsGivenBy, GoodTerms}
use Rattle.rc_owner_laws.specs.Parts.{PartView, part_view, IsPart, WasPlanned, GoodParts}
use Rattle.rc_owner_laws.specs.PartMoves.{HasHead, IsComplete, HasEnded, part_said, PartsMoved, PartsHear, PartsLater}
use Rattle.rc_owner_laws.proofs.PartViews.{good-more, said-later, later-refl}
use Rattle.rc_owner_laws.proofs.PartSteps.{takes-keep-parts, ticks-keep-parts, new-has-good-parts}
use Rattle.rc_owner_laws.specs.Worlds.{PartsHold}
use Rattle.rc_model.proofs.Tests.{true_false}
use Rattle.rc_step_laws.proofs.LogMoves.{more-left}
use Rattle.rc_step_laws.proofs.EachMaster.{is_others, IsLed, led-by}

-- all of the world's parts
abbrev pub PartsOf : World → Type 0
PartsOf world = PartsHold world.sent world.masters

-- One master

-- what holds of its parts, and what it said of them
record Its (sent : List Message) (m : ServerId) (master : Master) : Type 0 where
  good : GoodParts sent m (part_view master)
  said : (message : Message) → In message sent → message.from ≡ Server m → part_said (part_view master) message.to message.body

its-of : {sent : List Message} {masters : ServerId → Master} → PartsHold sent masters → {m : ServerId} → Its sent m (masters m)
its-of {masters} p {m} = search arith

of-all : {sent : List Message} {masters : ServerId → Master} → ((m : ServerId) → Its sent m (masters m)) → PartsHold sent masters
of-all {sent} {masters} its = search arith

fine-others : (v : PartView) (to : Addr) (says : Body) → is_others says ≡ true → part_said v to says
fine-others v to (body.Recovered attempt term) e = true_false (sym e)
fine-others v to (body.WriteOk seg offset term table key version) e = true_false (sym e)
fine-others v to (body.Fetch attempt master seg len part) e = true_false (sym e)
fine-others v to _ e = tt

-- its parts are later, and it says more of them
its-later : {sent : List Message} (messages : List Message) {m : ServerId} {old new : Master} → Its sent m old
    → GoodParts sent m (part_view new) →
    PartsLater (part_view old) (part_view new) →
    ((message : Message) → In message messages → message.from ≡ Server m → part_said (part_view new) message.to message.body) →
    Its (sent ++ messages) m new
its-later {sent} messages {m} {new} its good later says = record {
  good = good-more (more-left sent messages) good;
  said = λ message at from. by message from (In-append message sent messages at);
}
  where
    by : (message : Message) → message.from ≡ Server m → In message sent ⊎ In message messages →
        part_said (part_view new) message.to message.body
    by message from (inl there) = said-later its.good later message.to message.body (its.said message there from)
    by message from (inr here) = says message here from

-- a head that writes is one
has-head : {sent : List Message} {m : ServerId} {master : Master} → GoodMaster sent m master → HasHead master.log
has-head {master} good writes = good.writing_opened (writing-is master.log.phase writes)

-- A world

module _ (world : World) (grants : OfWorld world) (terms : GoodTerms world.sent world.coordinator) (parts : PartsOf world) where
  -- an Own of a part's term comes after its end
  module _ (m : ServerId) (term : ℕ) (state : PartState) (at : In state (world.masters m).ownership.parts)
      (same : state.part.term ≡ term) where
    task_of_state : IsPart world.sent m (part_view (world.masters m)) state
    task_of_state = (parts.each m).parts_are state at

    plan : WasPlanned world.sent m task_of_state.task
    plan = (parts.each m).planned task_of_state.task task_of_state.among

    planned : IsPlanOf world.coordinator (Server m) task_of_state.task.attempt
        task_of_state.task.master task_of_state.task.rows plan.parts
    planned = of_body (grants.kept.known plan.message plan.among)
      where
        of_body : Rattle.rc_owner_laws.specs.Grants.own_said world.coordinator plan.message.to plan.message.body →
            IsPlanOf world.coordinator (Server m) task_of_state.task.attempt
            task_of_state.task.master task_of_state.task.rows plan.parts
        of_body said = search (arith, plan, task_of_state)

    -- the part's term is no new table's
    uncreated : (grant : Grant) → In grant world.coordinator.grants → grant.term ≡ term → grant.attempt ≡ 0 → ⊥
    uncreated grant among is none =
        terms.created_apart grant among none task_of_state.task.attempt task_of_state.task.master planned.decision planned.decided
        (record { to = planned.id; part = task_of_state.task.part }) (planned.given task_of_state.task.part plan.part)
        (ap (λ (part : Part). part.term) task_of_state.part_is ∙ same ∙ sym is)

    ended : (grant : Grant) → In grant world.coordinator.grants → grant.owner ≡ m →
        grant.term ≡ term → IsComplete (part_view (world.masters m)) term
    ended grant among owner is = by (terms.origin grant among)
      where
        by : ((grant.attempt ≡ 0) × (grant.previous ≡ 0)) ⊎ IsGivenBy world.sent world.coordinator grant →
            IsComplete (part_view (world.masters m)) term
        by (inl created) = absurd (uncreated grant among is created.0)
        by (inr given) =
            let told : HasEnded (part_view (world.masters grant.owner)) grant.attempt grant.term =
            parts.said (to_coordinator grant.owner (body.Recovered grant.attempt grant.term)) given.asked in
            subst (IsComplete (part_view (world.masters m))) is
            (subst (λ (it : Master). IsComplete (part_view it) grant.term) (ap world.masters owner) told.complete)

  -- what the master hears of its parts
  hears-parts : (m : ServerId) (from : Addr) (says : Body) →
      In (record { from = from; to = Server m; body = says }) world.sent →
      PartsHear world.sent m (part_view (world.masters m)) from says
  hears-parts m from (body.Plan seg attempt crashed rows parts) at = at
  hears-parts m (Server x) (body.Data attempt seg term entries) at = at
  hears-parts m from (body.Own range term before attempt) at = (
    at,
    λ state there same. (
        let said : IsOwn world.coordinator (Server m) (body.Own range term before attempt) =
        grants.kept.known (record {
          from = from;
          to = Server m;
          body = body.Own range term before attempt;
        }) at in
        ended m term state there same said.grant said.among (owner-is said.grant said.to_is) (term-is said.grant said.body_is)),
  )
    where
      owner-is : (grant : Grant) → ◌≡◌ {A = Addr} (Server m) (Server grant.owner) → grant.owner ≡ m
      owner-is grant same = cc

      term-is : (grant : Grant) → body.Own range term before attempt ≡ own_body grant → grant.term ≡ term
      term-is grant same = cc
  hears-parts m from _ at = tt

  -- the master of the world, as it was
  record Was (sent : List Message) (m : ServerId) (master : Master) : Type 0 where
    sent_is : sent ≡ world.sent
    master_is : master ≡ world.masters m
    its : Its sent m master

  hears-its : (sent : List Message) (m : ServerId) (master : Master) → Was sent m master → (from : Addr) (says : Body) →
      In (record { from = from; to = Server m; body = says }) sent → PartsHear sent m (part_view master) from says
  hears-its sent m master was from says at = search (arith, hears-parts)

  moved : {sent : List Message} {m : ServerId} {master : Master} {after : Master × List Message} → Was sent m master →
      PartsMoved sent m master after → Its (sent ++ after.1) m after.0
  moved {after} was done = its-later after.1 was.its done.good done.later (λ message here from. done.says message here)

  parts-led : IsLed Was Its
  parts-led = record {
    same = λ sent m master was. was.its;
    others = λ sent messages m master was others. its-later messages was.its was.its.good later-refl
        (λ message here from. fine-others (part_view master) message.to message.body (others message here from));
    takes = λ sent m master from says good was at. moved was
        (takes-keep-parts sent m master from says (has-head good) was.its.good
        (hears-its sent m master was from says at));
    ticks = λ sent m master good was. moved was (ticks-keep-parts sent m master (has-head good) was.its.good);
  }

  -- an event
  parts-step : (one : Event) → GoodWorld world → PartsOf (step world one)
  parts-step one good = of-all (led-by Was Its parts-led world one good
      (λ m. record { sent_is = refl; master_is = refl; its = its-of parts }))

-- where the terms of every world are good
module _ (terms : (setup : Setup) (events : List Event) → GoodTerms (replay setup events).sent (replay setup events).coordinator) where
  parts-from : (setup : Setup) (before events : List Event) → PartsOf (replay setup before) →
      PartsOf (replay_from (replay setup before) events)
  parts-from setup before [] p = p
  parts-from setup before (one ∷ events) p =
      let same : replay setup (before ++ one ∷ []) ≡ step (replay setup before) one =
      replay_from-append (opening setup) before (one ∷ []) in
      subst (λ (world : World). PartsOf (replay_from world events)) same (parts-from setup (before ++ one ∷ []) events
      (subst PartsOf (sym same) (parts-step (replay setup before) (grants-world setup before) (terms setup before) p
      one (good-world setup before))))

  pub parts-world-by : (setup : Setup) (events : List Event) → PartsOf (replay setup events)
  parts-world-by setup events = parts-from setup [] events (record {
    each = λ m. new-has-good-parts m (master_setup setup m.index);
    said = λ message at. absurd at;
  })
