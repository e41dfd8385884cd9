-- Events that happen one after another.
use Rattle.std.proofs.Common.{◌≡◌, true, List, [], ◌∷◌, ◌++◌, sym, ap, subst, append_assoc}
use Rattle.std.proofs.lemmas.List.{append-nil}
use Rattle.rc_types.specs.declared.events.Event.{Event}
use Rattle.rc_world.specs.Happened.{Happened, with_events, can_happen, AllHappen}

-- nothing more has happened
pub with_events-nil : (world : Happened) → with_events world [] ≡ world
with_events-nil world = ap (λ (es : List Event). record world { events = es }) (append-nil world.events)

-- one list of events after another
pub with_events-append : (world : Happened) (events more : List Event) →
    with_events world (events ++ more) ≡ with_events (with_events world events) more
with_events-append world events more = ap (λ (es : List Event). record world { events = es }) (sym (append_assoc world.events events more))

-- one more event that can happen
pub AllHappen-push : (world : Happened) (events : List Event) (event : Event) → AllHappen world events →
    can_happen (with_events world events) event ≡ true → AllHappen world (events ++ event ∷ [])
AllHappen-push world [] event all last = (subst (λ (w : Happened). can_happen w event ≡ true) (with_events-nil world) last, tt)
AllHappen-push world (first ∷ events) event all last = (
  all.0,
  AllHappen-push (with_events world (first ∷ [])) events event all.1
      (subst (λ (w : Happened). can_happen w event ≡ true) (with_events-append world (first ∷ []) events) last),
)
