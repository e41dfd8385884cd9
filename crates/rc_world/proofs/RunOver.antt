-- What a run over a list of events comes to: each event of it in turn.
use Rattle.std.proofs.Common.{◌≡◌, ◌↔◌, ℕ, zero, suc, ◌+◌, ◌<◌, true, false}
use Rattle.std.proofs.Common.{List, [], ◌∷◌, ◌++◌, Option, Some, length, take, get_or, slice_get, sym, ap, subst, ◌∙◌, arith}
use Rattle.std.specs.Option.{IfSome}
use Rattle.std.proofs.lemmas.List.{take_more}
use Rattle.rc_types.specs.declared.events.Event.{Event}
use Rattle.rc_types.specs.declared.faults.Fault.{Fault}
use Rattle.rc_types.specs.declared.faults.Fault.TheVariants.{BadEvent}
use Rattle.rc_world.specs.Happened.{Happened, with_events, can_happen, AllHappen}
use Rattle.rc_world.proofs.Runs.{AllHappen-push, with_events-append}

-- one more event of a list
pub run_more : (world now after : Happened) (events : List Event) (i : ℕ) (event : Event) → i < length events →
    event ≡ get_or events i event →
    now ≡ with_events world (take i events) → AllHappen world (take i events) → can_happen now event ≡ true →
    after ≡ with_events now (event ∷ []) →
    (after ≡ with_events world (take (i + 1) events)) × AllHappen world (take (i + 1) events)
run_more world now after events i event h is so_far all can gone_on =
    let longer : take (i + 1) events ≡ take i events ++ event ∷ [] =
    take_more events i event h ∙ ap (λ (e : Event). take i events ++ e ∷ []) (sym is) in
    let same : after ≡ with_events world (take i events ++ event ∷ []) =
    gone_on ∙ (ap (λ (w : Happened). with_events w (event ∷ [])) so_far ∙ sym (with_events-append world (take i events) (event ∷ []))) in
    let can_so : can_happen (with_events world (take i events)) event ≡ true =
    subst (λ (w : Happened). can_happen w event ≡ true) so_far can in
    (rw longer same, rw longer (AllHappen-push world (take i events) event all can_so))

found_at : (events : List Event) (i : ℕ) (event : Event) → i < length events → event ≡ get_or events i event →
    slice_get events i ≡ Some event
found_at [] i event h is = absurd (omega (arith, h))
found_at (first ∷ events) zero event h is = ap Some (sym is)
found_at (first ∷ events) (suc i) event h is = found_at events i event (omega (arith, h)) is

-- an event that was refused just where it can not happen
pub run_stopped : (world after : Happened) (events : List Event) (i : ℕ) (event : Event) (fault : Fault) → i < length events →
    event ≡ get_or events i event → after ≡ world → (fault ≡ BadEvent → can_happen world event ≡ false) →
    (can_happen world event ≡ false → fault ≡ BadEvent) →
    (fault ≡ BadEvent) ↔ IfSome (slice_get events i) (λ e. can_happen after e ≡ false)
run_stopped world after events i event fault h is same bars bad =
    let found = found_at events i event h is in
    let refuses = λ (o : Option Event). IfSome o (λ e. can_happen after e ≡ false) in
    let can_not = λ (w : Happened). can_happen w event ≡ false in
    (λ b. subst refuses (sym found) (subst can_not (sym same) (bars b)), λ c. bad (subst can_not same (subst refuses found c)))
