-- One event more: the mail still fits the world.
use Rattle.std.proofs.Common.{◌≡◌, ◌≤◌, ◌<◌, ℕ, Bool, true, false, nat_lt, ◌&&◌, cond, List, [], ◌∷◌, ◌++◌, length, Option, Some, None}
use Rattle.std.proofs.Common.{slice_get, refl, sym, ap, subst, ◌∙◌, arith, true≢false, length-append}
use Rattle.std.proofs.lemmas.Option.{slice_get_within}
use Rattle.rc_model.specs.Model.{Event, MAX_EVENTS, Message, World, opening, step, is_possible}
use Rattle.rc_types.specs.declared.events.Event.TheVariants as event
use Rattle.rc_model.proofs.Replays.{replay_from-push, noted, sent_more-step}
use Rattle.rc_runs.specs.Delivered.{delivers}
use Rattle.rc_runs.specs.Letters.{Letters, Waits, HasNoted}
use Rattle.rc_runs.proofs.Deliveries.{waits_other}
use Rattle.rc_world.specs.Happened.{Happened, replayed, with_events, sent_in, can_happen}
use Rattle.rc_runs.specs.RunHolds.{RunHolds}

both : (a b : Bool) → (a && b) ≡ true → (a ≡ true) × (b ≡ true)
both true true same = (refl, refl)
both true false same = absurd (true≢false (sym same))
both false b same = absurd (true≢false (sym same))

-- what can happen is possible, and there is room for it
pub possible_of : (world : Happened) (one : Event) → can_happen world one ≡ true → is_possible (replayed world) one ≡ true
possible_of world one can = (both (nat_lt (length world.events) 200000) (is_possible (replayed world) one) can).1

pub room_of : (world : Happened) (one : Event) → can_happen world one ≡ true → length world.events < 200000
room_of world one can =
    let room = (both (nat_lt (length world.events) 200000) (is_possible (replayed world) one) can).0 in
    grind (arith, room)

-- an event that is possible is noted
noted_possible : (world : World) (one : Event) → is_possible world one ≡ true → (step world one).events ≡ world.events ++ one ∷ []
noted_possible world one possible = noted world one ∙ ap (λ b. cond b (world.events ++ one ∷ []) world.events) possible

-- the world after one event more is one step further
pub replayed_more : (world : Happened) (one : Event) → replayed (with_events world (one ∷ [])) ≡ step (replayed world) one
replayed_more world one = replay_from-push (opening world.setup) world.events one

-- a message that can be delivered was sent
pub sent_of : (world : World) (number : ℕ) → is_possible world (event.Deliver number) ≡ true → number < length world.sent
sent_of world number possible = by_message (slice_get world.sent number) refl possible
  where
    by_message : (message : Option Message) → slice_get world.sent number ≡ message →
        is_possible world (event.Deliver number) ≡ true → number < length world.sent
    by_message None none can = absurd (true≢false (sym (rw none at can)))
    by_message (Some message) at can = slice_get_within world.sent number message at

-- only a delivery delivers
pub nothing_delivered : (one : Event) → ((number : ℕ) → one ≡ event.Deliver number → ⊥) → (n : ℕ) → delivers n one ≡ false
nothing_delivered (event.Ask to body) other n = refl
nothing_delivered (event.Deliver number) other n = absurd (other number refl)
nothing_delivered (event.Tick addr) other n = refl
nothing_delivered (event.Stop id) other n = refl
nothing_delivered (event.Start host kept) other n = refl
nothing_delivered (event.Order order) other n = refl

taken_more : (world : Happened) (one : Event) → (replayed world).events ≡ world.events → is_possible (replayed world) one ≡ true
    → (replayed (with_events world (one ∷ []))).events ≡ world.events ++ one ∷ []
taken_more world one taken possible =
    ap (λ w. w.events) (replayed_more world one) ∙ noted_possible (replayed world) one possible ∙ ap (λ events. events ++ one ∷ []) taken

pub taken_then : (world after : Happened) (one : Event) → (replayed world).events ≡ world.events →
    after ≡ with_events world (one ∷ []) → can_happen world one ≡ true
    → (replayed after).events ≡ after.events
taken_then world after one taken made can = rw made (taken_more world one taken (possible_of world one can))

few_more : (world : Happened) (one : Event) → can_happen world one ≡ true → length (with_events world (one ∷ [])).events ≤ MAX_EVENTS
few_more world one can = omega (arith, room_of world one can, length-append world.events (one ∷ []))

-- a message that was delivered was noted
pub delivered_within : (world : Happened) (one : Event) (number : ℕ) (sent : List Message) (mail : Letters) →
    one ≡ event.Deliver number → can_happen world one ≡ true
    → sent ≡ sent_in world → HasNoted sent mail → number < length mail.delivered
delivered_within world one number sent mail same can told noted_all =
    let was_sent = sent_of (replayed world) number
    (possible_of world (event.Deliver number) (subst (λ e. can_happen world e ≡ true) same can)) in
    omega (arith, was_sent, ap length told, noted_all)

-- after an event, where the mail has kept up with it
pub holds_after : (world after : Happened) (one : Event) (mail : Letters) → (replayed world).events ≡ world.events
    → after ≡ with_events world (one ∷ []) → can_happen world one ≡ true
    → ((more : List Message) → Waits ((replayed world).events ++ one ∷ []) ((replayed world).sent ++ more) mail) → RunHolds after mail
holds_after world after one mail taken then can waits =
    let possible = possible_of world one can in
    let more = sent_more-step (replayed world) one in
    rw then (record {
      taken = taken_more world one taken possible;
      few = few_more world one can;
      waits = rw (replayed_more world one, noted_possible (replayed world) one possible, more.1) (waits more.0);
    })

-- after a delivery
pub holds_delivered : (world after : Happened) (one : Event) (number : ℕ) (mail noted : Letters) → (replayed world).events ≡ world.events
    → after ≡ with_events world (one ∷ []) → can_happen world one ≡ true → one ≡ event.Deliver number
    → Waits (replayed world).events (replayed world).sent noted
    → ((events : List Event) (sent more : List Message) → Waits events sent noted →
    Waits (events ++ event.Deliver number ∷ []) (sent ++ more) mail)
    → RunHolds after mail
holds_delivered world after one number mail noted taken then can same fits kept =
    holds_after world after one mail taken then can
    (λ more. rw same (kept (replayed world).events (replayed world).sent more fits))

-- after any other event
pub holds_other : (world after : Happened) (one : Event) (mail : Letters) → (replayed world).events ≡ world.events
    → after ≡ with_events world (one ∷ []) → can_happen world one ≡ true → ((number : ℕ) → one ≡ event.Deliver number → ⊥)
    → Waits (replayed world).events (replayed world).sent mail → RunHolds after mail
holds_other world after one mail taken then can other fits =
    holds_after world after one mail taken then can
    (λ more. waits_other (replayed world).events (replayed world).sent more one mail fits (nothing_delivered one other))

-- what the mail has noted fits
pub still_fits : (world : Happened) (sent : List Message) (mail noted : Letters) → RunHolds world mail → sent ≡ sent_in world
    → ((events : List Event) → Waits events sent mail → Waits events sent noted) → Waits (replayed world).events (replayed world).sent noted
still_fits world sent mail noted holds told kept =
    let events = (replayed world).events in
    subst (λ list. Waits events list noted) told (kept events (subst (λ list. Waits events list mail) (sym told) holds.waits))

-- where nothing has happened, but the mail has noted more
pub holds_noted : (world after : Happened) (sent : List Message) (mail noted : Letters) → RunHolds world mail →
    after ≡ world → sent ≡ sent_in world
    → ((events : List Event) → Waits events sent mail → Waits events sent noted) → RunHolds after noted
holds_noted world after sent mail noted holds same told kept = rw same (record {
  taken = holds.taken;
  few = holds.few;
  waits = still_fits world sent mail noted holds told kept;
})
