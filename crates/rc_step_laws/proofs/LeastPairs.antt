-- The least pair that the coordinator keeps of a master is the greatest that it has told it to be committed.
use Rattle.std.proofs.Common.{◌≡◌, ◌⊎◌, ℕ, true, false, List, [], ◌∷◌, ◌++◌, Option, Some, None}
use Rattle.std.proofs.Common.{refl, sym, ap, ◌∙◌, subst, inl, inr, arith}
use Rattle.std.proofs.lemmas.Bool.Decides.{nat_tests}
use Rattle.rc_model.specs.Model.{ServerId, Pair, Addr, Server, Outside}
use Rattle.rc_model.specs.Model.{Event, Message, Body, Commit, CommitOk}
use Rattle.rc_model.specs.Model.{put_id, is_server, from_coordinator}
use Rattle.rc_model.specs.Model.{is_below, greater_pair}
use Rattle.rc_model.specs.Model.{NodeWork, Deliver}
use Rattle.rc_model.specs.Model.{outside_sends, coordinator_step, host_step, World, opening, NodeName, TheOutside, TheCoordinator}
use Rattle.rc_model.specs.Model.{TheHost, Job, job_of, is_possible, node_done, job_done, step, replay_from, replay, pair_in, least_pair}
use Rattle.rc_model.specs.Model.{In}
use Rattle.rc_types.specs.declared.ids.Addr.TheVariants.{Coordinator as AtCoordinator}
use Rattle.rc_types.specs.declared.messages.Body.TheVariants as body
use Rattle.rc_model.specs.Coordinator.{Coordinator}
use Rattle.rc_step_laws.specs.Facts.{commit_ok_fine, body_fine}
use Rattle.rc_step_laws.proofs.Attempting.{below-trans}
use Rattle.rc_step_laws.specs.CommitClaims.{LeastIsTheGreatestCommit}
use Rattle.rc_model.proofs.Members.{In-left, In-right}
use Rattle.rc_model.proofs.CoordinatorWalk.{Moves, any-stays, walked-step}
use Rattle.rc_step_laws.proofs.Replays.{GoodWorld, good-world}
use Rattle.rc_model.proofs.Ids.{same_id-true, same_id-refl}
use Rattle.rc_model.proofs.Tests.{either}
use Rattle.rc_model.proofs.Granting.{greater-left, greater-right}

-- Steps of the coordinator: all but a commit leave the least pairs as they are

module _ (c : Coordinator) (H : Addr → Body → Type 0) where
  abbrev Same : Coordinator × List Message → Type 0
  Same after = after.0.least ≡ c.least

  -- as it was, or of a commit that was heard and is told
  abbrev pub WasTold : List Message → ServerId → Pair → Type 0
  WasTold messages m least = (least ≡ c.least m) ⊎
      (H (Server m) (Commit least.seg least.epoch) × In (from_coordinator m (CommitOk least.seg least.epoch)) messages)

  -- after a step the least pair of each master
  abbrev pub Told : Coordinator × List Message → Type 0
  Told after = (m : ServerId) → WasTold after.1 m (after.0.least m)

  told-same : (after : Coordinator × List Message) → Same after → Told after
  told-same after is m = inl (ap (λ (table : ServerId → Pair). table m) is)

  told-commits : {id : ServerId} {pair : Pair} → H (Server id) (Commit pair.seg pair.epoch) → Told (
    record c { least = put_id c.least id (greater_pair (c.least id) pair) },
    from_coordinator id (CommitOk pair.seg pair.epoch) ∷ [],
  )
  told-commits {id} {pair} h m = search (arith, same_id-true)

  told-moves : Moves c H Same Told
  told-moves = search (arith, told-same, told-commits)

  pub told-step : {work : NodeWork} → ((message : Message) → work ≡ Deliver message → H message.from message.body) →
      Told (coordinator_step c work)
  told-step {work} h = walked-step c H Same Told (any-stays H Told (λ messages m. inl refl)) told-moves work h

-- A world: each least pair is the first one, or was told

abbrev LeastTold : World → Type 0
LeastTold world = (m : ServerId) → (world.coordinator.least m ≡ record { seg = 0; epoch = 0 })
    ⊎ In (from_coordinator m (CommitOk (world.coordinator.least m).seg (world.coordinator.least m).epoch)) world.sent

-- more was sent, and the pair is the one before, or was told just now
told-more : (sent messages : List Message) (m : ServerId) {old new : Pair} → (old ≡ record { seg = 0; epoch = 0 }) ⊎
    In (from_coordinator m (CommitOk old.seg old.epoch)) sent →
    (new ≡ old) ⊎ (Unit {0} × In (from_coordinator m (CommitOk new.seg new.epoch)) messages) →
    (new ≡ record { seg = 0; epoch = 0 }) ⊎ In (from_coordinator m (CommitOk new.seg new.epoch)) (sent ++ messages)
told-more sent messages m {new} was (inr (_, now)) = inr (In-right (from_coordinator m (CommitOk new.seg new.epoch)) sent messages now)
told-more sent messages m (inl none) (inl same) = inl (same ∙ none)
told-more sent messages m {new} (inr there) (inl same) =
    inr (In-left (from_coordinator m (CommitOk new.seg new.epoch)) sent messages
    (subst (λ (pair : Pair). In (from_coordinator m (CommitOk pair.seg pair.epoch)) sent) (sym same) there))

told-node : (world : World) (one : Event) (node : NodeName) (work : NodeWork) → LeastTold world → LeastTold (node_done world one node work)
told-node world one TheCoordinator work p m =
    told-more world.sent (coordinator_step world.coordinator work).1 m (p m) (told-step world.coordinator (λ _ _. Unit {0}) (λ _ _. tt) m)
told-node world one TheOutside work p m = told-more world.sent (outside_sends work) m (p m) (inl refl)
told-node world one (TheHost i) work p m = told-more world.sent (host_step (world.hosts i) work).1 m (p m) (inl refl)

told-job : (world : World) (one : Event) (found : Option Job) → LeastTold world → LeastTold (job_done world one found)
told-job world one None p = p
told-job world one (Some job) p = told-node world one job.node job.work p

told-event : (world : World) (one : Event) → LeastTold world → LeastTold (step world one)
told-event world one p = either LeastTold (is_possible world one) (job_done world one (job_of world.sent one)) world
    (λ _. told-job world one (job_of world.sent one) p) (λ _. p)

told-from : (world : World) (events : List Event) → LeastTold world → LeastTold (replay_from world events)
told-from world [] p = p
told-from world (one ∷ events) p = told-from (step world one) events (told-event world one p)

-- Pairs

none-below : (pair : Pair) → is_below pair (record { seg = 0; epoch = 0 }) ≡ false
none-below pair = grind (arith, nat_tests)

-- of two pairs neither of which is below the other both are one
neither-below : {a b : Pair} → is_below a b ≡ false → is_below b a ≡ false → a ≡ b
neither-below {a} {b} p q = search (arith, nat_tests)

-- what was told is not above the greatest that was told
told-below : (sent : List Message) (m : ServerId) (message : Message) → In message sent →
    is_server m message.to ≡ true → is_below (least_pair sent m) (pair_in message.body) ≡ false
told-below [] m message at to = absurd at
told-below (first ∷ sent) m message (inl same) to = search (arith, greater-left)
told-below (first ∷ sent) m message (inr rest) to =
    either (λ (pair : Pair). is_below pair (pair_in message.body) ≡ false) (is_server m first.to)
    (greater_pair (pair_in first.body) (least_pair sent m)) (least_pair sent m)
    (λ _. below-trans (pair_in message.body) (least_pair sent m) (greater_pair (pair_in first.body) (least_pair sent m))
    (told-below sent m message rest to) (greater-right (pair_in first.body) (least_pair sent m)))
    (λ _. told-below sent m message rest to)

-- and the greatest is not above what none that was told is above
all-below : (sent : List Message) (m : ServerId) (bound : Pair) →
    ((message : Message) → In message sent → is_server m message.to ≡ true →
    is_below bound (pair_in message.body) ≡ false) → is_below bound (least_pair sent m) ≡ false
all-below [] m bound each = none-below bound
all-below (first ∷ sent) m bound each = either (λ (pair : Pair). is_below bound pair ≡ false) (is_server m first.to)
    (greater_pair (pair_in first.body) (least_pair sent m)) (least_pair sent m)
    (λ to. either (λ (pair : Pair). is_below bound pair ≡ false) (is_below (pair_in first.body) (least_pair sent m))
    (least_pair sent m) (pair_in first.body)
    (λ _. all-below sent m bound (λ message at. each message (inr at))) (λ _. each first (inl refl) to))
    (λ _. all-below sent m bound (λ message at. each message (inr at)))

-- The law

-- a commit that was told is not above the least pair, by who tells it
told-fine : (c : Coordinator) (from to : Addr) (s e : ℕ) (m : ServerId) → commit_ok_fine c from to s e →
    is_server m to ≡ true → is_below (c.least m) (record { seg = s; epoch = e }) ≡ false
told-fine c AtCoordinator (Server id) s e m fine is = search (arith, same_id-true)
told-fine c AtCoordinator AtCoordinator s e m fine is = absurd fine
told-fine c AtCoordinator Outside s e m fine is = absurd fine
told-fine c (Server id) to s e m fine is = absurd fine
told-fine c Outside to s e m fine is = absurd fine

pub least-is-the-greatest-commit : LeastIsTheGreatestCommit
least-is-the-greatest-commit setup events m = neither-below
    (all-below (replay setup events).sent m ((replay setup events).coordinator.least m) each)
    (by (told-from (opening setup) events (λ k. inl refl) m))
  where
    good : GoodWorld (replay setup events)
    good = good-world setup events

    each : (message : Message) → In message (replay setup events).sent → is_server m message.to ≡ true →
        is_below ((replay setup events).coordinator.least m) (pair_in message.body) ≡ false
    each message at to = of message.body (good.messages message at)
      where
        of : (says : Body) → body_fine (replay setup events).sent (replay setup events).masters
            (replay setup events).hosts (replay setup events).coordinator message.from message.to says →
            is_below ((replay setup events).coordinator.least m) (pair_in says) ≡ false
        of (body.CommitOk s e) fine = told-fine (replay setup events).coordinator message.from message.to s e m fine to
        of _ fine = none-below ((replay setup events).coordinator.least m)

    by : ((replay setup events).coordinator.least m ≡ record { seg = 0; epoch = 0 })
        ⊎ In (from_coordinator m (CommitOk ((replay setup events).coordinator.least m).seg
        ((replay setup events).coordinator.least m).epoch)) (replay setup events).sent →
        is_below (least_pair (replay setup events).sent m) ((replay setup events).coordinator.least m) ≡ false
    by (inl none) = subst (λ (pair : Pair). is_below (least_pair (replay setup events).sent m) pair ≡ false) (sym none)
        (none-below (least_pair (replay setup events).sent m))
    by (inr there) = told-below (replay setup events).sent m
        (from_coordinator m (CommitOk ((replay setup events).coordinator.least m).seg
        ((replay setup events).coordinator.least m).epoch)) there (same_id-refl m)
