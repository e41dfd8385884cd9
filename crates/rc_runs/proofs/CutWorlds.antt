-- The world after a power failure, part by part.
use Rattle.std.proofs.Common.{◌≡◌, ℕ, ◌+◌, ◌<◌, true, false, nat_lt, ◌&&◌, List, [], ◌∷◌, ◌++◌, length, take, get_or, ap, ap₂, sym, ◌∙◌}
use Rattle.std.proofs.lemmas.Bool.{lt-ltb}
use Rattle.std.proofs.lemmas.List.{take_more}
use Rattle.rc_model.specs.Model.{Setup, Event, World, is_possible, step, opening, replay, replay_from}
use Rattle.rc_model.proofs.Replays.{step-impossible, replay_from-push}
use Rattle.rc_types.specs.declared.ids.Addr.TheVariants.{Coordinator}
use Rattle.rc_types.specs.declared.events.Event.TheVariants.{Tick}
use Rattle.rc_reading.specs.declared.scenarios.ScenarioEvent.{ScenarioEvent}
use Rattle.rc_reading.specs.declared.scenarios.ScenarioEvent.TheVariants.{Core}
use Rattle.rc_world.specs.Happened.{Happened, opened, with_events, can_happen, replayed}
use Rattle.rc_runs.specs.declared.cutting.Keeping.{Keeping}
use Rattle.rc_runs.specs.declared.cutting.Keeping.TheVariants.{All, OddSegments, Nothing}
use Rattle.rc_runs.specs.Draw.{settled, played}
use Rattle.rc_runs.specs.Stops.{gathered, stop_of, start_of, decisions_of, cut_scene, cut_from, cut_world, breaks, breaches_at}

-- the event has happened
pub takes_step : (old new : Happened) (event : Event) → new ≡ with_events old (event ∷ []) → replayed new ≡ step (replayed old) event
takes_step old new event gone_on =
    ap (λ (world : Happened). replayed world) gone_on ∙ replay_from-push (opening old.setup) old.events event

-- or it was not possible
pub passes_step : (old new : Happened) (event : Event) → length old.events < 200000 → new ≡ old → can_happen old event ≡ false
    → replayed new ≡ step (replayed old) event
passes_step old new event room still cannot =
    let has_room : nat_lt (length old.events) 200000 ≡ true = lt-ltb (length old.events) 200000 room in
    let not_possible : is_possible (replayed old) event ≡ false = ap (λ b. b && is_possible (replayed old) event) (sym has_room) ∙ cannot in
    ap (λ (world : Happened). replayed world) still ∙ sym (step-impossible (replayed old) event not_possible)

-- one event more
pub replay_more : (start now next : World) (events : List Event) (i : ℕ) (event : Event) → i < length events → event ≡ get_or events i event
    → now ≡ replay_from start (take i events) → next ≡ step now event → next ≡ replay_from start (take (i + 1) events)
replay_more start now next events i event below is so_far made =
    let longer : take (i + 1) events ≡ take i events ++ event ∷ [] =
    take_more events i event below ∙ ap (λ (e : Event). take i events ++ e ∷ []) (sym is) in
    made ∙ ap (λ (w : World). step w event) so_far ∙ sym (replay_from-push start (take i events) event)
    ∙ ap (λ (es : List Event). replay_from start es) (sym longer)

-- the run of the events
pub run_is : (events : List Event) (setup : Setup) (start now : Happened) → start ≡ opened setup
    → replayed now ≡ replay_from (replayed start) events → replayed now ≡ replay setup events
run_is events setup start now begins replays =
    replays ∙ ap (λ (w : Happened). replay_from (replayed w) events) begins

-- and what follows, where all of it is played
pub cut_anew : (setup : Setup) (hosts : ℕ) (keeping : Keeping) (events : List Event) (run seen again after : Happened)
    (scene : List ScenarioEvent) → replayed run ≡ replay setup events → seen ≡ run
    → scene ≡ cut_scene hosts keeping (replayed seen) → replayed again ≡ replay setup events
    → replayed after ≡ played (replayed again) scene → replayed after ≡ cut_world setup hosts keeping events
unfolding cut_world
cut_anew setup hosts keeping events run seen again after scene taken same is anew made =
    made ∙ ap (λ (w : World). played w scene) anew
    ∙ ap (λ (s : List ScenarioEvent). played (replay setup events) s)
    (is ∙ ap (λ (w : World). cut_scene hosts keeping w) (ap replayed same ∙ taken))

-- and where it is played on from a world in which all servers have stopped
pub cut_on : (setup : Setup) (hosts : ℕ) (keeping : Keeping) (events : List Event) (run after : Happened)
    → replayed run ≡ replay setup events → replayed after ≡ cut_from hosts keeping (replayed run)
    → replayed after ≡ cut_world setup hosts keeping events
unfolding cut_world
cut_on setup hosts keeping events run after taken made = made ∙ ap (λ (w : World). cut_from hosts keeping w) taken

-- where the hosts start as they do where all is kept, it is the same number
pub counted_alike : (setup : Setup) (hosts : ℕ) (keeping : Keeping) (events : List Event) (run seen : Happened) (all : ℕ)
    → replayed run ≡ replay setup events → seen ≡ run
    → gathered (start_of keeping (replayed seen)) hosts ≡ gathered (start_of All (replayed seen)) hosts
    → all ≡ breaks (cut_world setup hosts All events) → all ≡ breaks (cut_world setup hosts keeping events)
unfolding cut_world
counted_alike setup hosts keeping events run seen all taken same starts counted =
    let is : replayed seen ≡ replay setup events = ap replayed same ∙ taken in
    counted
    ∙ ap (λ (w : World). breaks (cut_from hosts All w)) (sym is)
    ∙ ap (λ (first : List ScenarioEvent). breaks (played (replayed seen) (gathered (stop_of (replayed seen)) hosts ++ first
    ++ settled ∷ Core (Tick Coordinator) ∷ settled ∷ [] ++ gathered (decisions_of (replayed seen)) hosts ++ settled ∷ []))) (sym starts)
    ∙ ap (λ (w : World). breaks (cut_from hosts keeping w)) is

-- in the three ways
pub counted_all : (setup : Setup) (hosts : ℕ) (events : List Event) (all odd nothing : ℕ)
    → all ≡ breaks (cut_world setup hosts All events) → odd ≡ breaks (cut_world setup hosts OddSegments events)
    → nothing ≡ breaks (cut_world setup hosts Nothing events) → all + odd + nothing ≡ breaches_at setup hosts events
unfolding breaches_at
counted_all setup hosts events all odd nothing all_are odd_are nothing_are =
    ap₂ (λ n m. n + m) (ap₂ (λ n m. n + m) all_are odd_are) nothing_are
