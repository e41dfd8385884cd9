-- Each segment below a master's least pair is shut, and so is each below a granted one.
use Rattle.std.proofs.Common.{◌≡◌, ◌⊎◌, ℕ, ◌<◌, ◌≤◌, true, false, List, [], ◌∷◌, ◌++◌, Option, Some}
use Rattle.std.proofs.Common.{None, refl, sym, ap, subst, inl, inr, arith}
use Rattle.std.proofs.lemmas.Bool.Decides.{nat_tests}
use Rattle.rc_model.specs.Model.{ServerId, Pair, Setup, Event, Message, Commit, CommitOk, to_coordinator, from_coordinator, is_below}
use Rattle.rc_model.specs.Model.{NodeWork}
use Rattle.rc_model.specs.Model.{coordinator_step, World, opening, NodeName, TheOutside, TheCoordinator, TheHost, Job, job_of, is_possible}
use Rattle.rc_model.specs.Model.{node_done, job_done, step, replay_from, replay, In}
use Rattle.rc_types.specs.declared.ids.Addr.TheVariants.{Coordinator as AtCoordinator}
use Rattle.rc_model.specs.Coordinator.{Coordinator}
use Rattle.rc_model.proofs.Replays.{replay_from-push}
use Rattle.rc_step_laws.proofs.Replays.{GoodWorld, IsGiven, job_of-given, taken-at, led-step, good-world}
use Rattle.rc_step_laws.proofs.LeastPairs.{WasTold, told-step}
use Rattle.rc_owner_laws.specs.CommitClaims.{CommitsAreInOrder, LeastPairsAreInOrder}
use Rattle.rc_owner_laws.proofs.Ordering.{commits-are-asked-in-order}
use Rattle.rc_model.proofs.Tests.{either}

-- The least pairs after a step of the coordinator: as before, or a pair whose commit was asked

abbrev pub Asked : List Message → Coordinator → ServerId → Pair → Type 0
Asked sent c m pair = (pair ≡ c.least m) ⊎ In (to_coordinator m (Commit pair.seg pair.epoch)) sent

asked-step : (sent : List Message) (c : Coordinator) (work : NodeWork) → IsGiven sent TheCoordinator work → {m : ServerId} →
    Asked sent c m ((coordinator_step c work).0.least m)
asked-step sent c work given {m} =
    by (told-step c (λ from body. In (record { from = from; to = AtCoordinator; body = body }) sent) (taken-at sent given) m)
  where
    by : WasTold c (λ from body. In (record { from = from; to = AtCoordinator; body = body }) sent)
        (coordinator_step c work).1 m ((coordinator_step c work).0.least m) →
        Asked sent c m ((coordinator_step c work).0.least m)
    by (inl same) = inl same
    by (inr (heard, told)) = inr heard

-- A world

asked-node : (world : World) (one : Event) (node : NodeName) (work : NodeWork) → IsGiven world.sent node work →
    {m : ServerId} → Asked world.sent world.coordinator m ((node_done world one node work).coordinator.least m)
asked-node world one TheOutside work given = inl refl
asked-node world one TheCoordinator work given = asked-step world.sent world.coordinator work given
asked-node world one (TheHost i) work given = inl refl

asked-job : (world : World) (one : Event) (found : Option Job) → job_of world.sent one ≡ found → {m : ServerId} →
    Asked world.sent world.coordinator m ((job_done world one found).coordinator.least m)
asked-job world one None is = inl refl
asked-job world one (Some job) is = asked-node world one job.node job.work (job_of-given world.sent one is)

pub asked-event : (world : World) (one : Event) {m : ServerId} → Asked world.sent world.coordinator m ((step world one).coordinator.least m)
asked-event world one {m} =
    either (λ (after : World). Asked world.sent world.coordinator m (after.coordinator.least m)) (is_possible world one)
    (job_done world one (job_of world.sent one)) world
    (λ _. asked-job world one (job_of world.sent one) refl) (λ _. inl refl)

-- each segment below a least pair is shut
abbrev LeastOrdered : World → Type 0
LeastOrdered world = (m : ServerId) (t : ℕ) → 0 < t → t < (world.coordinator.least m).seg → ((world.masters m).log.segments t).shut ≡ true

-- in each world, what was asked was asked in order
abbrev AskedInOrder : World → Type 0
AskedInOrder world = (m : ServerId) (s e t : ℕ) → In (to_coordinator m (Commit s e)) world.sent → 0 < t → t < s →
    ((world.masters m).log.segments t).shut ≡ true

ordered-step : (world : World) (one : Event) → GoodWorld world → AskedInOrder world → LeastOrdered world → LeastOrdered (step world one)
ordered-step world one good asked p m t above less =
    (((led-step world one good).onward.grown m).later.shut t (by ((step world one).coordinator.least m) (asked-event world one) less)).0
  where
    by : (pair : Pair) → Asked world.sent world.coordinator m pair → t < pair.seg → ((world.masters m).log.segments t).shut ≡ true
    by pair (inl is) less = p m t above (subst (λ (one : Pair). t < one.seg) is less)
    by pair (inr at) less = asked m pair.seg pair.epoch t at above less

ordered-from : (setup : Setup) (past events : List Event) → LeastOrdered (replay setup past) →
    LeastOrdered (replay_from (replay setup past) events)
ordered-from setup past [] p = p
ordered-from setup past (one ∷ events) p =
    subst LeastOrdered (ap (λ (world : World). replay_from world events) (replay_from-push (opening setup) past one))
    (ordered-from setup (past ++ one ∷ []) events (subst LeastOrdered (sym (replay_from-push (opening setup) past one))
    (ordered-step (replay setup past) one (good-world setup past)
    (λ m s e t at above less. commits-are-asked-in-order setup past m s e t at above less) p)))

pub least-pairs-are-in-order : LeastPairsAreInOrder
least-pairs-are-in-order setup events m t above less =
    ordered-from setup [] events (λ n s over under. absurd (omega (arith, under))) m t above less

-- a pair that isn't below another has no less a segment
not-below : (least pair : Pair) → is_below least pair ≡ false → pair.seg ≤ least.seg
not-below least pair e = grind (arith, nat_tests)

pub commits-are-in-order : CommitsAreInOrder
commits-are-in-order setup events m s e t at above less =
    let granted : is_below ((replay setup events).coordinator.least m) (record { seg = s; epoch = e }) ≡ false =
    (good-world setup events).messages (from_coordinator m (CommitOk s e)) at in
    least-pairs-are-in-order setup events m t above (omega (
      arith,
      less,
      not-below ((replay setup events).coordinator.least m) (record { seg = s; epoch = e }) granted,
    ))
