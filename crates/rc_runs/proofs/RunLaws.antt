-- A scenario's run is a run of the world.
use Rattle.std.proofs.Common.{◌≡◌, ℕ, ◌+◌, ◌<◌, ◌≤◌, zero, suc, Bool, true, false, nat_lt, ◌&&◌, if◌then◌else◌, cond, ◌++◌, List, [], ◌∷◌}
use Rattle.std.proofs.Common.{length, Option, Some, None, Result, Ok, Err, refl, sym, ap, ◌∙◌, arith, length-append}
use Rattle.rc_types.specs.declared.events.Event.TheVariants as event
use Rattle.rc_model.specs.Model.{Setup, Event, World, opening, step, is_possible, job_done, job_of, replay}
use Rattle.rc_model.proofs.Replays.{replay_from-push, noted}
use Rattle.rc_runs.specs.declared.passing.Passing.{Passing}
use Rattle.rc_runs.specs.Settling.{events_left, due_from, none_left, one_left, pass}
use Rattle.rc_reading.specs.declared.scenarios.Scenario.{Scenario}
use Rattle.rc_reading.specs.declared.scenarios.ScenarioEvent.{ScenarioEvent}
use Rattle.rc_reading.specs.declared.scenarios.ScenarioEvent.TheVariants as scene
use Rattle.rc_runs.specs.Runs.{scenario_event, Ended, goes_on, run_from, run_within}

-- the world is what its events lead to, and there are at most so many of them
pub record IsRun (most : ℕ) (setup : Setup) (world : World) : Type 0 where
  pub replayed : world ≡ replay setup world.events
  pub few : length world.events ≤ most

-- an event that is possible is noted
noted_possible : (world : World) (event : Event) → is_possible world event ≡ true → (step world event).events ≡ world.events ++ event ∷ []
noted_possible world event possible = noted world event ∙ ap (λ b. cond b (world.events ++ event ∷ []) world.events) possible

one_more : (most : ℕ) (setup : Setup) (world : World) (event : Event) → IsRun most setup world →
    length world.events < most → is_possible world event ≡ true → IsRun most setup (step world event)
one_more most setup world event run room possible =
    let same = noted_possible world event possible in
    record {
      replayed = ap (λ w. step w event) run.replayed ∙ sym (replay_from-push (opening setup) world.events event) ∙
          ap (replay setup) (sym same);
      few = omega (arith, ap length same, length-append world.events (event ∷ []));
    }

-- whichever way it goes on
EndsInRun : ℕ → Setup → Result World World → Type 0
EndsInRun most setup (Ok world) = IsRun most setup world
EndsInRun most setup (Err world) = IsRun most setup world

in_core_event : (most : ℕ) (setup : Setup) (world : World) (event : Event) (room possible : Bool) → IsRun most setup world
    → nat_lt (length world.events) most ≡ room → is_possible world event ≡ possible
    → EndsInRun most setup (if room && possible then Ok (step world event) else Err world)
unfolding EndsInRun
in_core_event most setup world event false possible run left is = run
in_core_event most setup world event true false run left is = run
in_core_event most setup world event true true run left is = one_more most setup world event run (grind arith) is

-- a pass that goes on with fewer events left
GoesOn : ℕ → Setup → ℕ → (World → ℕ → Result World World) → Type 0
GoesOn most setup left rest = (next : World) (m : ℕ) → IsRun most setup next → left + length next.events ≤ most →
    EndsInRun most setup (rest next m)

delivered : (most : ℕ) (setup : Setup) (left : ℕ) (rest : World → ℕ → Result World World) (world : World) (n : ℕ) (possible : Bool)
    → GoesOn most setup left rest → IsRun most setup world → suc left + length world.events ≤ most →
    is_possible world (event.Deliver n) ≡ possible
    → EndsInRun most setup
    (rest (if possible then job_done world (event.Deliver n) (job_of world.sent (event.Deliver n)) else world) (n + 1))
unfolding GoesOn
delivered most setup left rest world n false later run room is = later world (n + 1) run (omega arith)
delivered most setup left rest world n true later run room is =
    let same = noted_possible world (event.Deliver n) is in
    let stepped : step world (event.Deliver n) ≡ job_done world (event.Deliver n) (job_of world.sent (event.Deliver n)) = rw is refl in
    let more : IsRun most setup (step world (event.Deliver n)) = one_more most setup world (event.Deliver n) run (omega arith) is in
    rw (← stepped) (later (step world (event.Deliver n)) (n + 1) more
    (omega (arith, ap length same, length-append world.events (event.Deliver n ∷ []))))

in_one_left : (most : ℕ) (setup : Setup) (left : ℕ) (rest : World → ℕ → Result World World) (world : World) (due : Option ℕ)
    → GoesOn most setup left rest → IsRun most setup world → suc left + length world.events ≤ most →
    EndsInRun most setup (one_left rest world due)
unfolding EndsInRun
in_one_left most setup left rest world None later run room = run
in_one_left most setup left rest world (Some n) later run room =
    delivered most setup left rest world n (is_possible world (event.Deliver n)) later run room refl

in_none_left : (most : ℕ) (setup : Setup) (world : World) (due : Option ℕ) → IsRun most setup world →
    EndsInRun most setup (none_left world due)
unfolding EndsInRun
in_none_left most setup world None run = run
in_none_left most setup world (Some n) run = run

in_pass : (most : ℕ) (setup : Setup) (passing : Passing) (left : ℕ) → GoesOn most setup left (pass passing left)
unfolding GoesOn
in_pass most setup passing zero world n run room = in_none_left most setup world (due_from passing world.events world.sent n) run
in_pass most setup passing (suc left) world n run room = in_one_left most setup left (pass passing left) world
    (due_from passing world.events world.sent n) (in_pass most setup passing left) run room

in_event : (most : ℕ) (setup : Setup) (world : World) (event : ScenarioEvent) → IsRun most setup world →
    EndsInRun most setup (scenario_event most world event)
unfolding EndsInRun GoesOn
in_event most setup world (scene.Core event) run = in_core_event most setup world event _ _ run refl refl
in_event most setup world (scene.Settle kinds hosts) run =
    in_pass most setup (record { kinds = kinds; hosts = hosts }) (events_left most world) world 0 run (omega (arith, run.few))

in_goes_on : (most : ℕ) (setup : Setup) (place : ℕ) (rest : World → Ended) (outcome : Result World World)
    → ((next : World) → IsRun most setup next → IsRun most setup (rest next).world) → EndsInRun most setup outcome →
    IsRun most setup (goes_on place rest outcome).world
unfolding EndsInRun
in_goes_on most setup place rest (Ok next) later run = later next run
in_goes_on most setup place rest (Err world) later run = run

in_run : (most : ℕ) (setup : Setup) (place : ℕ) (world : World) (events : List ScenarioEvent) → IsRun most setup world →
    IsRun most setup (run_from most place world events).world
in_run most setup place world [] run = run
in_run most setup place world (event ∷ events) run =
    in_goes_on most setup place (λ next. run_from most (place + 1) next events) (scenario_event most world event)
    (λ next next_run. in_run most setup (place + 1) next events next_run) (in_event most setup world event run)

-- a scenario ends in a run of the world
pub scenario_is_run : (most : ℕ) (scenario : Scenario) → IsRun most scenario.setup (run_within most scenario).world
scenario_is_run most scenario =
    in_run most scenario.setup 0 (opening scenario.setup) scenario.events (record { replayed = refl; few = omega arith })
