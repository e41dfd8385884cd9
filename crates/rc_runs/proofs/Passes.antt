-- A pass, turn by turn.
use Rattle.std.proofs.Common.{◌≡◌, ◌⊎◌, inl, inr, ◌≤◌, ◌<◌, ℕ, ◌+◌, ◌-◌, zero, suc, Bool, true, false, nat_lt, ◌&&◌}
use Rattle.std.proofs.Common.{List, [], ◌∷◌, length, Some, None, Ok, Err, refl, sym, ap, ◌∙◌, arith, true≢false}
use Rattle.std.proofs.Common.{length-append, drop, is_some, slice_get, drop_of_length-le, unwrap_or, if◌then◌else◌}
use Rattle.std.proofs.lemmas.List.{length-drop}
use Rattle.rc_types.specs.declared.events.Event.TheVariants as event
use Rattle.rc_model.specs.Model.{Event, Fault, MAX_EVENTS, Message, World, delivery, is_possible_job, step, is_possible, Addr}
use Rattle.rc_model.specs.Model.{Server, Outside}
use Rattle.rc_types.specs.declared.faults.Fault.TheVariants.{OutOfMemory, BadEvent}
use Rattle.rc_types.specs.declared.ids.Addr.TheVariants.{Coordinator}
use Rattle.rc_runs.specs.declared.passing.Passing.{Passing}
use Rattle.rc_runs.specs.Settling.{events_left, is_due, next_due, due_from, pass}
use Rattle.rc_world.specs.Happened.{Happened, replayed, with_events, can_happen}
use Rattle.rc_runs.specs.Steps.{room_at}
use Rattle.rc_runs.proofs.Steppings.{replayed_more, taken_then}

-- where nothing is due, the pass has come to its end
none_due : (passing : Passing) (left : ℕ) (world : World) (n : ℕ) → due_from passing world.events world.sent n ≡ None →
    pass passing left world n ≡ Ok world
none_due passing zero world n none = rw none refl
none_due passing (suc left) world n none = rw none refl

-- where no event is left, a message that is due stops it
no_room : (passing : Passing) (world : World) (n number : ℕ) →
    due_from passing world.events world.sent n ≡ Some number → pass passing 0 world n ≡ Err world
no_room passing world n number due = rw due refl

-- and else it is delivered
one_due : (passing : Passing) (left : ℕ) (world : World) (n number : ℕ) → due_from passing world.events world.sent n ≡ Some number
    → pass passing (suc left) world n ≡ pass passing left (step world (event.Deliver number)) (number + 1)
one_due passing left world n number due = rw due refl

-- a message that is due was sent

due_within : (passing : Passing) (events : List Event) (n number : ℕ) (messages : List Message) →
    next_due passing events n messages ≡ Some number → number < n + length messages
due_within passing events n number [] due = absurd (true≢false (sym (ap is_some due)))
due_within passing events n number (message ∷ messages) due =
    by_test (is_due passing events n message) (due_within passing events (n + 1) number messages) due
  where
    by_test : (b : Bool) → (next_due passing events (n + 1) messages ≡ Some number → number < (n + 1) + length messages)
        → (if b then Some n else next_due passing events (n + 1) messages) ≡ Some number → number < n + length (message ∷ messages)
    by_test true rest same = let h : n ≡ number = ap (λ found. unwrap_or found 0) same in omega (arith, h)
    by_test false rest same = let h = rest same in omega (arith, h)

sent_at : (sent : List Message) (n : ℕ) → n < length sent → (message : Message) × (slice_get sent n ≡ Some message)
sent_at [] n lt = absurd (omega (arith, lt))
sent_at (message ∷ sent) zero lt = (message, refl)
sent_at (message ∷ sent) (suc n) lt = sent_at sent n (omega (arith, lt))

-- a message can always be delivered
can_take : (world : World) (message : Message) (to : Addr) → message.to ≡ to → is_possible_job world (delivery (Some message)) ≡ true
can_take world message Outside to = rw to refl
can_take world message Coordinator to = rw to refl
can_take world message (Server id) to = rw to refl

due_possible : (passing : Passing) (world : World) (n number : ℕ) →
    due_from passing world.events world.sent n ≡ Some number → is_possible world (event.Deliver number) ≡ true
due_possible passing world n number due =
    let within = due_within passing world.events n number (drop n world.sent) due in
    let long = length-drop n world.sent in
    let at = sent_at world.sent number (by_place (nat_lt n (length world.sent)) refl within long) in
    rw at.1 (can_take world at.0 at.0.to refl)
  where
    nothing_past : length world.sent ≤ n → ⊥
    nothing_past le = true≢false (sym (ap is_some (sym (ap (next_due passing world.events n) (drop_of_length-le world.sent le)) ∙ due)))

    by_place : (b : Bool) → nat_lt n (length world.sent) ≡ b → number < n + length (drop n world.sent) →
        length (drop n world.sent) ≡ length world.sent - n → number < length world.sent
    by_place true is lt long = let h : n < length world.sent = grind (arith, is) in omega (arith, h, lt, long)
    by_place false is lt long = let h : length world.sent ≤ n = grind (arith, is) in absurd (nothing_past h)

pub longer : (world after : Happened) (one : Event) → after ≡ with_events world (one ∷ []) → length after.events ≡ length world.events + 1
longer world after one made = ap (λ w. length w.events) made ∙ length-append world.events (one ∷ [])

-- one turn of a pass
pub turn_taken : (passing : Passing) (most from number : ℕ) (world after : Happened) → (replayed world).events ≡ world.events
    → due_from passing (replayed world).events (replayed world).sent from ≡ Some number →
    after ≡ with_events world (event.Deliver number ∷ []) → can_happen world (event.Deliver number) ≡ true →
    length after.events ≤ most
    → pass passing (events_left most (replayed world)) (replayed world) from ≡ pass passing
    (events_left most (replayed after)) (replayed after) (number + 1)
turn_taken passing most from number world after taken due made can room =
    let more = longer world after (event.Deliver number) made in
    let taken_after = taken_then world after (event.Deliver number) taken made can in
    let left : events_left most (replayed world) ≡ suc (events_left most (replayed after)) =
    omega (arith, ap length taken, ap length taken_after, more, room) in
    let stepped : replayed after ≡ step (replayed world) (event.Deliver number) =
    ap replayed made ∙ replayed_more world (event.Deliver number) in
    rw left (one_due passing (events_left most (replayed after)) (replayed world) from number due
    ∙ ap (λ w. pass passing (events_left most (replayed after)) w (number + 1)) (sym stepped))

-- a turn that fails
no_room_for : (passing : Passing) (fault : Fault) (from number : ℕ) (world : Happened) → (replayed world).events ≡ world.events
    → due_from passing (replayed world).events (replayed world).sent from ≡ Some number →
    (fault ≡ OutOfMemory) ⊎ (fault ≡ BadEvent) → (fault ≡ BadEvent → can_happen world (event.Deliver number) ≡ false)
    → events_left (room_at fault world) (replayed world) ≡ 0
no_room_for passing fault from number world taken due (inl same) bad = rw same (omega (arith, ap length taken))
no_room_for passing fault from number world taken due (inr same) bad =
    let possible = due_possible passing (replayed world) from number due in
    let full : nat_lt (length world.events) 200000 ≡ false = by_test (nat_lt (length world.events) 200000) (rw possible at (bad same)) in
    rw same (grind (arith, full, ap length taken))
  where
    by_test : (b : Bool) → (b && true) ≡ false → b ≡ false
    by_test true none = none
    by_test false none = refl

pub turn_stops : (passing : Passing) (fault : Fault) (from number : ℕ) (world : Happened) → (replayed world).events ≡ world.events
    → due_from passing (replayed world).events (replayed world).sent from ≡ Some number →
    (fault ≡ OutOfMemory) ⊎ (fault ≡ BadEvent) → (fault ≡ BadEvent → can_happen world (event.Deliver number) ≡ false)
    → pass passing (events_left (room_at fault world) (replayed world)) (replayed world) from ≡ Err (replayed world)
turn_stops passing fault from number world taken due which bad =
    rw (no_room_for passing fault from number world taken due which bad) (no_room passing (replayed world) from number due)

pub turn_ends : (passing : Passing) (left : ℕ) (world : World) (n : ℕ) →
    due_from passing world.events world.sent n ≡ None → pass passing left world n ≡ Ok world
turn_ends passing left world n none = none_due passing left world n none

-- there was room for what has happened
pub room_enough : (fault : Fault) (world : Happened) → (fault ≡ OutOfMemory) ⊎ (fault ≡ BadEvent) →
    length world.events ≤ MAX_EVENTS → length world.events ≤ room_at fault world
room_enough fault world (inl same) few = rw same (omega arith)
room_enough fault world (inr same) few = rw same few
