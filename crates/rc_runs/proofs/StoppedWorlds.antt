-- What follows a power failure, from a world in which the servers have stopped already.
use Rattle.std.proofs.Common.{◌≡◌, ℕ, zero, suc, ◌+◌, Bool, true, false, nat_lt, ◌&&◌, if◌then◌else◌, List, [], ◌∷◌, ◌++◌}
use Rattle.std.proofs.Common.{◌≤◌, ◌-◌, length, map, drop, Result, Ok, Err, refl, sym, ap, ◌∙◌, true≢false, append_assoc, arith}
use Rattle.std.proofs.Common.{length-append}
use Rattle.std.proofs.lemmas.List.{map-append, length-map}
use Rattle.std.proofs.Math.Seq.{drop-append_seam}
use Rattle.rc_types.specs.declared.ids.Addr.TheVariants.{Coordinator}
use Rattle.rc_types.specs.declared.events.Event.TheVariants.{Stop, Tick}
use Rattle.rc_model.specs.Model.{Event, World, is_possible, step}
use Rattle.rc_reading.specs.declared.scenarios.ScenarioEvent.{ScenarioEvent}
use Rattle.rc_reading.specs.declared.scenarios.ScenarioEvent.TheVariants.{Core}
use Rattle.rc_runs.specs.Runs.{goes_on, scenario_event, run_from}
use Rattle.rc_world.specs.Happened.{Happened, replayed, with_events, AllHappen}
use Rattle.rc_world.specs.Stops.{newest_at, runs_at, stops_below}
use Rattle.rc_world.proofs.Runs.{with_events-nil, with_events-append}
use Rattle.rc_runs.proofs.Steppings.{replayed_more, taken_then, possible_of}
use Rattle.rc_runs.specs.declared.cutting.Keeping.{Keeping}
use Rattle.rc_runs.specs.Draw.{settled, played}
use Rattle.rc_runs.specs.Stops.{gathered, stop_of, start_of, decisions_of, cut_scene, cut_from}

-- the world that a run comes to does not depend on how its events are numbered
any_place : (most p q : ℕ) (world : World) (events : List ScenarioEvent) →
    (run_from most p world events).world ≡ (run_from most q world events).world
any_place most p q world [] = refl
any_place most p q world (event ∷ events) =
    by (scenario_event most world event) (λ next. any_place most (p + 1) (q + 1) next events)
  where
    by : (result : Result World World)
        → ((next : World) → (run_from most (p + 1) next events).world ≡ (run_from most (q + 1) next events).world)
        → (goes_on p (λ next. run_from most (p + 1) next events) result).world
        ≡ (goes_on q (λ next. run_from most (q + 1) next events) result).world
    by (Ok next) rest = rest next
    by (Err stays) rest = refl

-- an event that can happen comes first
played_first : (world : World) (one : Event) (rest : List ScenarioEvent) → nat_lt (length world.events) 200000 ≡ true →
    is_possible world one ≡ true → played world (Core one ∷ rest) ≡ played (step world one) rest
unfolding played
played_first world one rest = by (nat_lt (length world.events) 200000) (is_possible world one)
  where
    by : (a b : Bool) → a ≡ true → b ≡ true
        → (goes_on 0 (λ next. run_from 200000 1 next rest) (if a && b then Ok (step world one) else Err world)).world
        ≡ (run_from 200000 0 (step world one) rest).world
    by true true room possible = any_place 200000 1 0 (step world one) rest
    by true false room possible = absurd (true≢false (sym possible))
    by false b room possible = absurd (true≢false (sym room))

room_of : (a b : Bool) → (a && b) ≡ true → a ≡ true
room_of true b both = refl
room_of false b both = absurd (true≢false (sym both))

-- events that can happen one after another come first
played_through : (world : Happened) (events : List Event) (rest : List ScenarioEvent) → (replayed world).events ≡ world.events →
    AllHappen world events → played (replayed world) (map Core events ++ rest) ≡ played (replayed (with_events world events)) rest
played_through world [] rest taken all = ap (λ w. played (replayed w) rest) (sym (with_events-nil world))
played_through world (one ∷ events) rest taken all =
    let next = with_events world (one ∷ []) in
    let room : nat_lt (length (replayed world).events) 200000 ≡ true =
    rw taken (room_of (nat_lt (length world.events) 200000) (is_possible (replayed world) one) all.0) in
    played_first (replayed world) one (map Core events ++ rest) room (possible_of world one all.0)
    ∙ ap (λ w. played w (map Core events ++ rest)) (sym (replayed_more world one))
    ∙ played_through next events rest (taken_then world next one taken refl all.0) all.1
    ∙ ap (λ w. played (replayed w) rest) (sym (with_events-append world (one ∷ []) events))

-- the stops of a scene are events of the world
stops_gathered : (world : World) (n : ℕ) → gathered (stop_of world) n ≡ map Core (stops_below world.hosts n)
unfolding gathered stops_below
stops_gathered world zero = refl
stops_gathered world (suc n) =
    ap (λ scene. scene ++ stop_of world n) (stops_gathered world n)
    ∙ ap (λ scene. map Core (stops_below world.hosts n) ++ scene) (by (runs_at world.hosts n))
    ∙ sym (map-append Core (stops_below world.hosts n) _)
  where
    by : (b : Bool) → (if b then Core (Stop (newest_at world.hosts n)) ∷ [] else [])
        ≡ map Core (if b then Stop (newest_at world.hosts n) ∷ [] else [])
    by true = refl
    by false = refl

-- what follows the stops
abbrev after_stops : ℕ → Keeping → World → List ScenarioEvent
after_stops hosts keeping world =
    gathered (start_of keeping world) hosts ++ settled ∷ Core (Tick Coordinator) ∷ settled ∷ []
    ++ gathered (decisions_of world) hosts ++ settled ∷ []

stops_first : (hosts : ℕ) (keeping : Keeping) (world : World) →
    cut_scene hosts keeping world ≡ map Core (stops_below world.hosts hosts) ++ after_stops hosts keeping world
stops_first hosts keeping world =
    let stops = gathered (stop_of world) hosts in
    let starts = gathered (start_of keeping world) hosts in
    let looks = settled ∷ Core (Tick Coordinator) ∷ settled ∷ [] in
    let decisions = gathered (decisions_of world) hosts in
    ap (λ scene. scene ++ decisions ++ settled ∷ []) (append_assoc stops starts looks)
    ∙ ap (λ scene. scene ++ settled ∷ []) (append_assoc stops (starts ++ looks) decisions)
    ∙ append_assoc stops (starts ++ looks ++ decisions) (settled ∷ [])
    ∙ ap (λ scene. scene ++ after_stops hosts keeping world) (stops_gathered world hosts)

-- how many stops there are
pub stops_counted : (run stopped : Happened) (stops : List Event) → stopped ≡ with_events run stops →
    length stopped.events - length run.events ≡ length stops
stops_counted run stopped stops gone_on =
    let long : length stopped.events ≡ length run.events + length stops =
    ap (λ w. length w.events) gone_on ∙ length-append run.events stops in
    omega (arith, long)

pub stops_within : (hosts : ℕ) (keeping : Keeping) (run seen : Happened) (scene : List ScenarioEvent) → seen ≡ run →
    scene ≡ cut_scene hosts keeping (replayed seen) → length (stops_below (replayed run).hosts hosts) ≤ length scene
stops_within hosts keeping run seen scene same is =
    let stops = stops_below (replayed run).hosts hosts in
    let whole : scene ≡ map Core stops ++ after_stops hosts keeping (replayed run) =
    is ∙ ap (λ w. cut_scene hosts keeping (replayed w)) same ∙ stops_first hosts keeping (replayed run) in
    let long : length scene ≡ length stops + length (after_stops hosts keeping (replayed run)) =
    ap (λ s. length s) whole ∙ length-append (map Core stops) (after_stops hosts keeping (replayed run))
    ∙ ap (λ n. n + length (after_stops hosts keeping (replayed run))) (length-map stops Core) in
    omega (arith, long)

-- the rest of a scene, played where the servers have stopped
pub cut_stopped : (hosts : ℕ) (keeping : Keeping) (run seen stopped after : Happened) (scene rest : List ScenarioEvent) (count : ℕ) →
    (replayed run).events ≡ run.events → seen ≡ run → scene ≡ cut_scene hosts keeping (replayed seen) →
    stopped ≡ with_events run (stops_below (replayed run).hosts hosts) → AllHappen run (stops_below (replayed run).hosts hosts) →
    count ≡ length (stops_below (replayed run).hosts hosts) → rest ≡ drop count scene →
    replayed after ≡ played (replayed stopped) rest → replayed after ≡ cut_from hosts keeping (replayed run)
cut_stopped hosts keeping run seen stopped after scene rest count taken same is gone_on all counted left made =
    let stops = stops_below (replayed run).hosts hosts in
    let later = after_stops hosts keeping (replayed run) in
    let whole : scene ≡ map Core stops ++ later =
    is ∙ ap (λ w. cut_scene hosts keeping (replayed w)) same ∙ stops_first hosts keeping (replayed run) in
    let so : rest ≡ later =
    left ∙ ap (λ n. drop n scene) (counted ∙ sym (length-map stops Core)) ∙ ap (λ s. drop (length (map Core stops)) s) whole
    ∙ drop-append_seam (map Core stops) later in
    made ∙ ap (λ s. played (replayed stopped) s) so ∙ ap (λ w. played (replayed w) later) gone_on
    ∙ sym (played_through run stops later taken all) ∙ ap (λ s. played (replayed run) s) (sym (stops_first hosts keeping (replayed run)))
