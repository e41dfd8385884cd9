-- A scenario is what its events lead to.
use Rattle.std.proofs.Common.{◌≡◌, ℕ, ◌+◌, Bool, true, false, cond, List, [], ◌∷◌, ◌++◌, ◌||◌, Option, Some, None}
use Rattle.std.proofs.Common.{slice_get, refl, sym, ap, ◌∙◌, zero, suc, append_assoc, append-nil}
use Rattle.rc_model.specs.Model.{Setup, Event, Message, World, opening, step, is_possible, replay}
use Rattle.rc_types.specs.declared.events.Event.TheVariants as event
use Rattle.rc_model.proofs.Replays.{replay_from-push, step-impossible, noted}
use Rattle.rc_worked.specs.Settling.{Line, Once, Settle, is_delivered, is_to_outside, deliver_unless, until_end, settles, many, runs}
use Rattle.rc_worked.specs.Happening.{ScenariosAreReplays}

-- the world is what its events lead to
abbrev IsReplay : Setup → World → Type 0
IsReplay setup world = replay setup world.events ≡ world

replay-step : (setup : Setup) (world : World) (one : Event) → IsReplay setup world → IsReplay setup (step world one)
replay-step setup world one is = by (is_possible world one) refl
  where
    noted_as : (b : Bool) → is_possible world one ≡ b →
        (step world one).events ≡ cond b (world.events ++ one ∷ []) world.events
    noted_as b e = noted world one
        ∙ ap (λ (possible : Bool). cond possible (world.events ++ one ∷ []) world.events) e

    by : (b : Bool) → is_possible world one ≡ b → IsReplay setup (step world one)
    by true e = ap (replay setup) (noted_as true e)
        ∙ (replay_from-push (opening setup) world.events one ∙ ap (λ (w : World). step w one) is)
    by false e = ap (replay setup) (noted_as false e) ∙ (is ∙ sym (step-impossible world one e))

replay-deliver : (setup : Setup) (passes : Bool) (number : ℕ) (world : World) → IsReplay setup world →
    IsReplay setup (deliver_unless passes number world)
replay-deliver setup true number world is = is
replay-deliver setup false number world is = replay-step setup world (event.Deliver number) is

-- one round of settling, where the rounds after it keep it
replay-found : (setup : Setup) (found : Option Message) (world : World) (goes_on : Message → World) →
    IsReplay setup world →
    ((message : Message) → IsReplay setup (goes_on message)) → IsReplay setup (until_end found world goes_on)
replay-found setup None world goes_on is on = is
replay-found setup (Some message) world goes_on is on = on message

replay-settles : (setup : Setup) (times : ℕ) (passes : Message → Bool) (number : ℕ) (world : World) →
    IsReplay setup world → IsReplay setup (settles times passes number world)
replay-settles setup zero passes number world is = is
replay-settles setup (suc times) passes number world is =
    replay-found setup (slice_get world.sent number) world
    (λ message. settles times passes (number + 1)
    (deliver_unless (is_to_outside message.to || (passes message || is_delivered number world.events))
    number world))
    is
    (λ message. replay-settles setup times passes (number + 1)
    (deliver_unless (is_to_outside message.to || (passes message || is_delivered number world.events))
    number world)
    (replay-deliver setup (is_to_outside message.to || (passes message || is_delivered number world.events))
    number world is))

replay-runs : (setup : Setup) (world : World) (lines : List Line) → IsReplay setup world → IsReplay setup (runs world lines)
replay-runs setup world [] is = is
replay-runs setup world (Once one ∷ lines) is =
    replay-runs setup (step world one) lines (replay-step setup world one is)
replay-runs setup world (Settle passes ∷ lines) is =
    replay-runs setup (settles many passes 0 world) lines (replay-settles setup many passes 0 world is)

pub scenarios-are-replays : ScenariosAreReplays
scenarios-are-replays setup lines = replay-runs setup (opening setup) lines refl

-- What happens in a scenario is added to what has happened

-- so many more events have happened
abbrev GrowsTo : World → World → Type 0
GrowsTo world after = (more : List Event) × (after.events ≡ world.events ++ more)

grows-not : (world : World) → GrowsTo world world
grows-not world = ([], sym (append-nil world.events))

grows-on : (first second third : World) → GrowsTo first second → GrowsTo second third → GrowsTo first third
grows-on first second third one two =
    (one.0 ++ two.0, two.1 ∙ (ap (λ (all : List Event). all ++ two.0) one.1 ∙ append_assoc first.events one.0 two.0))

grows-step : (world : World) (one : Event) → GrowsTo world (step world one)
grows-step world one = by (is_possible world one) (noted world one)
  where
    by : (b : Bool) → (step world one).events ≡ cond b (world.events ++ one ∷ []) world.events → GrowsTo world (step world one)
    by true e = (one ∷ [], e)
    by false e = ([], e ∙ sym (append-nil world.events))

grows-deliver : (passes : Bool) (number : ℕ) (world : World) → GrowsTo world (deliver_unless passes number world)
grows-deliver true number world = grows-not world
grows-deliver false number world = grows-step world (event.Deliver number)

grows-found : (found : Option Message) (world : World) (goes_on : Message → World) →
    ((message : Message) → GrowsTo world (goes_on message)) → GrowsTo world (until_end found world goes_on)
grows-found None world goes_on on = grows-not world
grows-found (Some message) world goes_on on = on message

grows-settles : (times : ℕ) (passes : Message → Bool) (number : ℕ) (world : World) →
    GrowsTo world (settles times passes number world)
grows-settles zero passes number world = grows-not world
grows-settles (suc times) passes number world =
    grows-found (slice_get world.sent number) world
    (λ message. settles times passes (number + 1)
    (deliver_unless (is_to_outside message.to || (passes message || is_delivered number world.events)) number world))
    (λ message. grows-on world
    (deliver_unless (is_to_outside message.to || (passes message || is_delivered number world.events)) number world)
    (settles times passes (number + 1)
    (deliver_unless (is_to_outside message.to || (passes message || is_delivered number world.events)) number world))
    (grows-deliver (is_to_outside message.to || (passes message || is_delivered number world.events)) number world)
    (grows-settles times passes (number + 1)
    (deliver_unless (is_to_outside message.to || (passes message || is_delivered number world.events)) number world)))

pub runs-grow : (world : World) (lines : List Line) → (more : List Event) × ((runs world lines).events ≡ world.events ++ more)
runs-grow world [] = grows-not world
runs-grow world (Once one ∷ lines) =
    grows-on world (step world one) (runs (step world one) lines) (grows-step world one) (runs-grow (step world one) lines)
runs-grow world (Settle passes ∷ lines) =
    grows-on world (settles many passes 0 world) (runs (settles many passes 0 world) lines)
    (grows-settles many passes 0 world) (runs-grow (settles many passes 0 world) lines)

-- two scenarios one after the other are one
pub runs-append : (world : World) (early more : List Line) → runs world (early ++ more) ≡ runs (runs world early) more
runs-append world [] more = refl
runs-append world (Once one ∷ early) more = runs-append (step world one) early more
runs-append world (Settle passes ∷ early) more = runs-append (settles many passes 0 world) early more
