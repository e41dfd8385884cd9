-- A master's least pair is the first one, or the master has asked for it to be committed.
use Rattle.std.proofs.Common.{◌≡◌, ◌⊎◌, List, [], ◌∷◌, ◌++◌, refl, sym, ◌∙◌, subst, inl, inr}
use Rattle.std.proofs.lemmas.List.{append-nil, append_assoc}
use Rattle.rc_model.specs.Model.{ServerId, Pair, Setup, Event, Message, Commit, to_coordinator, World, opening, step, replay, In}
use Rattle.rc_model.proofs.Replays.{replay_from-push}
use Rattle.rc_step_laws.proofs.Replays.{led-step, good-world}
use Rattle.rc_owner_laws.proofs.Leasts.{Asked, asked-event}

-- the pair of each master
abbrev pub AllAsked : World → Type 0
AllAsked world = (m : ServerId) → (world.coordinator.least m ≡ record { seg = 0; epoch = 0 })
    ⊎ In (to_coordinator m (Commit (world.coordinator.least m).seg (world.coordinator.least m).epoch)) world.sent

asked-step : (setup : Setup) (events : List Event) (one : Event) → AllAsked (replay setup events) → AllAsked (step
    (replay setup events) one)
asked-step setup events one p m = by ((step (replay setup events) one).coordinator.least m) (asked-event (replay setup events) one)
  where
    more : (message : Message) → In message (replay setup events).sent → In message (step (replay setup events) one).sent
    more = (led-step (replay setup events) one (good-world setup events)).onward.more

    was : (pair : Pair) → pair ≡ (replay setup events).coordinator.least m →
        ((replay setup events).coordinator.least m ≡ record { seg = 0; epoch = 0 })
        ⊎ In (to_coordinator m (Commit ((replay setup events).coordinator.least m).seg ((replay setup events).coordinator.least m).epoch))
        (replay setup events).sent →
        (pair ≡ record { seg = 0; epoch = 0 }) ⊎ In (to_coordinator m (Commit pair.seg pair.epoch)) (step (replay setup events) one).sent
    was pair same (inl none) = inl (same ∙ none)
    was pair same (inr at) = inr (more _ (subst (λ (one : Pair). In (to_coordinator m (Commit one.seg one.epoch))
        (replay setup events).sent) (sym same) at))

    by : (pair : Pair) → Asked (replay setup events).sent (replay setup events).coordinator m pair →
        (pair ≡ record { seg = 0; epoch = 0 }) ⊎ In (to_coordinator m (Commit pair.seg pair.epoch)) (step (replay setup events) one).sent
    by pair (inl same) = was pair same (p m)
    by pair (inr at) = inr (more _ at)

asked-from : (setup : Setup) (past events : List Event) → AllAsked (replay setup past) → AllAsked (replay setup (past ++ events))
asked-from setup past [] p = subst (λ (all : List Event). AllAsked (replay setup all)) (sym (append-nil past)) p
asked-from setup past (one ∷ events) p =
    subst (λ (all : List Event). AllAsked (replay setup all)) (append_assoc past (one ∷ []) events)
    (asked-from setup (past ++ one ∷ []) events
    (subst AllAsked (sym (replay_from-push (opening setup) past one)) (asked-step setup past one p)))

pub least-asked : (setup : Setup) (events : List Event) → AllAsked (replay setup events)
least-asked setup events = asked-from setup [] events (λ m. inl refl)
