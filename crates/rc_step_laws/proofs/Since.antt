-- From a world to a later one: what was sent stays, each master's log is a later one, and what is safe stays safe.
use Rattle.std.proofs.Common.{arith}
use Rattle.std.proofs.Common.{◌≡◌, ℕ, List, [], ◌∷◌, ◌++◌, take, drop, refl, subst}
use Rattle.std.proofs.lemmas.List.{take-append-drop}
use Rattle.rc_model.specs.Model.{ServerId, Setup, Event, World, step, replay_from, replay}
use Rattle.rc_step_laws.specs.All.{IsSafe, LogLater}
use Rattle.rc_step_laws.proofs.Copies.{More}
use Rattle.rc_step_laws.proofs.LogViews.{log_later-refl, log_later-trans, safe-grown}
use Rattle.rc_step_laws.proofs.Replays.{GoodWorld, GoodStep, led-step, good-world}

-- a later world, as one master's log sees it
pub record Since (m : ServerId) (old new : World) : Type 0 where
  pub good : GoodWorld new
  pub more : More old.sent new.sent
  pub later : LogLater new.sent m (old.masters m).log (new.masters m).log
  pub safe : (s o : ℕ) → IsSafe old.sent m (old.masters m).log s o → IsSafe new.sent m (new.masters m).log s o

since-step : {m : ServerId} {old middle new : World} → GoodStep old middle → Since m middle new → Since m old new
since-step {m} led rest = record {
  good = rest.good;
  more = λ message at. rest.more message (led.onward.more message at);
  later = log_later-trans rest.more (led.onward.grown m).later rest.later;
  safe = λ s o p. rest.safe s o (safe-grown (led.onward.grown m) p);
}

pub since : {m : ServerId} {world : World} (events : List Event) → GoodWorld world → Since m world (replay_from world events)
since {m} {world} [] good = search (arith, log_later-refl)
since {m} {world} (one ∷ events) good =
    since-step {m = m} {old = world} {middle = (step world one)} {new = (replay_from (step world one) events)} (led-step world one good)
    (since {m = m} {world = (step world one)} events (led-step world one good).good)

-- the events one after another
pub replay_from-append : (world : World) (events more : List Event) →
    replay_from world (events ++ more) ≡ replay_from (replay_from world events) more
replay_from-append world [] more = refl
replay_from-append world (one ∷ events) more = replay_from-append (step world one) events more

pub since-more : (setup : Setup) (events more : List Event) {m : ServerId} → Since m (replay setup events) (replay setup (events ++ more))
since-more setup events more {m} = search (arith, replay_from-append, since, good-world)

-- a beginning of the events
pub since-take : (setup : Setup) (events : List Event) (n : ℕ) {m : ServerId} → Since m (replay setup (take n events)) (replay setup events)
since-take setup events n {m} =
    subst (λ (all : List Event). Since m (replay setup (take n events)) (replay setup all)) (take-append-drop n events)
    (since-more setup (take n events) (drop n events))
