-- The events of a scenario, one after another.
use Rattle.std.proofs.Common.{◌≡◌, ◌⊎◌, inl, inr, ◌<◌, ℕ, ◌+◌, Bool, true, false, nat_lt, ◌&&◌, if◌then◌else◌, List, [], ◌∷◌, length}
use Rattle.std.proofs.Common.{Some, Result, Ok, Err, OnOk, IfErr, OnErr, drop, refl, sym, ap, ◌∙◌, suc, slice_index_or, arith}
use Rattle.std.proofs.Math.Seq.{drop-cons}
use Rattle.rc_model.specs.Model.{Event, Fault, World, step, is_possible}
use Rattle.rc_types.specs.declared.faults.Fault.TheVariants.{OutOfMemory, BadEvent}
use Rattle.rc_reading.specs.declared.scenarios.ScenarioEvent.{ScenarioEvent}
use Rattle.rc_reading.specs.declared.scenarios.ScenarioEvent.TheVariants as scene
use Rattle.rc_runs.specs.Runs.{one_event, scenario_event, run_from}
use Rattle.rc_world.specs.Happened.{Happened, replayed, with_events, can_happen}
use Rattle.rc_runs.specs.Steps.{GoesOn, room_at, StopsIn}
use Rattle.rc_runs.proofs.Steppings.{possible_of, replayed_more}
use Rattle.rc_runs.proofs.Passes.{longer}

if_both : {X : Type 0} (a b : Bool) (x y : X) → a ≡ true → b ≡ true → (if a && b then x else y) ≡ x
if_both a b x y one other = rw (one, other) refl

-- one event of the world that happened
one_taken : (old new : Happened) (event : Event) → (replayed old).events ≡ old.events →
    new ≡ with_events old (event ∷ []) → can_happen old event ≡ true
    → GoesOn (λ most world. one_event most world event) old new
one_taken old new event taken made can most room =
    let more = longer old new event made in
    let there : nat_lt (length old.events) most ≡ true = grind (arith, more, room) in
    let stepped : replayed new ≡ step (replayed old) event = ap replayed made ∙ replayed_more old event in
    if_both (nat_lt (length (replayed old).events) most) (is_possible (replayed old) event)
    (Ok (step (replayed old) event)) (Err (replayed old))
    (rw taken there) (possible_of old event can) ∙ ap Ok (sym stepped)

pub one_goes_on : {T E : Type 0} (result : Result T E) (old new : Happened) (event : Event)
    → (replayed old).events ≡ old.events → OnOk result (new ≡ with_events old (event ∷ [])) → OnOk result (can_happen old event ≡ true)
    → OnOk result (GoesOn (λ most world. scenario_event most world (scene.Core event)) old new)
one_goes_on (Ok t) old new event taken made can = one_taken old new event taken made can
one_goes_on (Err e) old new event taken made can = tt

-- one that did not
one_refused : (old : Happened) (event : Event) (fault : Fault) → (replayed old).events ≡ old.events →
    (fault ≡ OutOfMemory) ⊎ (fault ≡ BadEvent)
    → (fault ≡ BadEvent → can_happen old event ≡ false) → one_event (room_at fault old) (replayed old) event ≡ Err (replayed old)
one_refused old event fault taken (inl same) bad =
    let full : nat_lt (length old.events) (length old.events) ≡ false = grind arith in
    rw (same, taken, full) refl
one_refused old event fault taken (inr same) bad =
    let never : (nat_lt (length old.events) 200000 && is_possible (replayed old) event) ≡ false = bad same in
    rw (same, taken, never) refl

pub one_stops : {T : Type 0} (result : Result T Fault) (old new : Happened) (event : Event)
    → (replayed old).events ≡ old.events → IfErr result (λ fault. (fault ≡ OutOfMemory) ⊎ (fault ≡ BadEvent)) →
    (result ≡ Err BadEvent → can_happen old event ≡ false)
    → OnErr result (new ≡ old)
    → IfErr result (λ fault. StopsIn (λ most world. scenario_event most world (scene.Core event)) fault old new)
one_stops (Ok t) old new event taken which bad kept = tt
one_stops (Err fault) old new event taken which bad kept =
    rw kept (one_refused old event fault taken which (λ is. bad (ap Err is)))

pub scene_stops : (most place : ℕ) (world next : World) (event : ScenarioEvent) (events rest : List ScenarioEvent) → events ≡ event ∷ rest
    → scenario_event most world event ≡ Err next → run_from most place world events ≡ record { world = next; stopped = Some place }
scene_stops most place world next event events rest same made = rw (same, made) refl

pub dropped_at : (events : List ScenarioEvent) (place : ℕ) (event : ScenarioEvent) → place < length events →
    event ≡ slice_index_or events place event
    → drop place events ≡ event ∷ drop (place + 1) events
dropped_at events place event lt is =
    let next : suc place ≡ place + 1 = omega arith in
    drop-cons events place event lt ∙ ap (λ e. e ∷ drop (suc place) events) (sym is) ∙ rw next refl
