-- What a part of a run comes to.
use Rattle.std.proofs.Common.{◌≡◌, ℕ, ◌≤◌, Bool, true, false, nat_lt, ◌&&◌, if◌then◌else◌, List, [], ◌∷◌, length}
use Rattle.std.proofs.Common.{Option, Some, None, Result, Ok, Err, OnOk, refl, sym, ap, subst, ◌∙◌, arith}
use Rattle.rc_model.specs.Model.{Event, Fault, World, is_possible, step}
use Rattle.rc_types.specs.declared.faults.Fault.TheVariants.{BadEvent}
use Rattle.rc_model.proofs.Replays.{step-impossible}
use Rattle.rc_reading.specs.declared.scenarios.ScenarioEvent.{ScenarioEvent}
use Rattle.rc_world.specs.Happened.{Happened, replayed, with_events, can_happen}
use Rattle.rc_runs.specs.Steps.{RunsThrough, StopsAt}
use Rattle.rc_runs.proofs.Steppings.{replayed_more, room_of}
use Rattle.rc_runs.specs.Draw.{played, tried, tried_if_any}

-- to its end
pub ends_played : (old new : Happened) (events : List ScenarioEvent) → length new.events ≤ 200000 → RunsThrough events old new
    → replayed new ≡ played (replayed old) events
unfolding played
ends_played old new events few ran = sym (ap (λ ended. ended.world) (ran 200000 few))

-- or to an event that can't happen
pub stops_played : (old new : Happened) (events : List ScenarioEvent) (place : ℕ) (fault : Fault) → fault ≡ BadEvent
    → StopsAt events place fault old new → replayed new ≡ played (replayed old) events
unfolding played
stops_played old new events place fault bad stopped =
    sym (ap (λ ended. ended.world) (subst (λ f. StopsAt events place f old new) bad stopped))

-- an event that can happen does, and one that can't is passed over
pub happened_tried : (world after : Happened) (event : Event) → (replayed world).events ≡ world.events →
    can_happen world event ≡ true → after ≡ with_events world (event ∷ []) → replayed after ≡ tried (replayed world) event
happened_tried world after event taken can made =
    let room : nat_lt (length world.events) 200000 ≡ true = grind (arith, room_of world event can) in
    ap replayed made ∙ replayed_more world event
    ∙ sym (ap (λ events. if nat_lt (length events) 200000 then step (replayed world) event else replayed world) taken
    ∙ ap (λ b. if b then step (replayed world) event else replayed world) room)

pub passed_tried : (world after : Happened) (event : Event) → (replayed world).events ≡ world.events →
    after ≡ world → can_happen world event ≡ false → replayed after ≡ tried (replayed world) event
passed_tried world after event taken same can =
    ap replayed same
    ∙ by_tests (nat_lt (length world.events) 200000) (is_possible (replayed world) event) can refl
    ∙ ap (λ events. if nat_lt (length events) 200000 then step (replayed world) event else replayed world) (sym taken)
  where
    by_tests : (room possible : Bool) → (room && possible) ≡ false → is_possible (replayed world) event ≡ possible →
        replayed world ≡ (if room then step (replayed world) event else replayed world)
    by_tests true true can is = absurd (cc)
    by_tests true false can is = sym (step-impossible (replayed world) event is)
    by_tests false possible can is = refl

-- one step, whose event was tried
pub step_tried : {T E : Type 0} (result : Result T E) (old new : World) (event : Event) (chosen : Option Event)
    → Some event ≡ chosen → OnOk result (new ≡ tried old event) → OnOk result (new ≡ tried_if_any old chosen)
step_tried (Ok t) old new event chosen same made = made ∙ ap (tried_if_any old) same
step_tried (Err e) old new event chosen same made = tt

-- and one that chose none
pub step_passed : (world : World) (chosen : Option Event) → None ≡ chosen → world ≡ tried_if_any world chosen
step_passed world chosen same = ap (tried_if_any world) same
