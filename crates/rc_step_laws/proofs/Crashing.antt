-- Who has crashed stays so.
use Rattle.std.proofs.Common.{arith}
use Rattle.std.proofs.Common.{◌≡◌, ◌⊎◌, ℕ, true, List, [], ◌∷◌, sym, ◌∙◌, subst, inl, inr}
use Rattle.rc_model.specs.Model.{ServerId, Event, is_up, has_crashed, World, opening, step, replay_from, replay}
use Rattle.rc_step_laws.proofs.Servers.{crashed-not-up}
use Rattle.rc_model.proofs.Replays.{replay_from-push}
use Rattle.rc_step_laws.proofs.Granted.{grants-step}
use Rattle.rc_step_laws.proofs.Replays.{GoodWorld, GoodStep, led-step, good-world}
use Rattle.rc_step_laws.specs.CommitClaims.{CrashedIsNeverUp, WasCommitted, EachGrantGoesToTheUp, GrantsGoToTheUp, CrashedAreGrantedNoMore}
use Rattle.rc_step_laws.proofs.Since.{replay_from-append}
use Rattle.rc_model.proofs.Tests.{true_false}

crashed-from : (world : World) (more : List Event) (m : ServerId) → GoodWorld world →
    has_crashed world.coordinator.servers m ≡ true → has_crashed (replay_from world more).coordinator.servers m ≡ true
crashed-from world [] m good e = e
crashed-from world (one ∷ more) m good e = crashed-from (step world one) more m led.good (led.onward.c_later.crashed m e)
  where
    led : GoodStep world (step world one)
    led = led-step world one good

pub crashed-is-never-up : CrashedIsNeverUp
crashed-is-never-up setup events more m e =
    search (arith, replay_from-append, crashed-not-up, crashed-from, good-world)

-- Grants

pub each-grant-goes-to-the-up : EachGrantGoesToTheUp
each-grant-goes-to-the-up = grants-step

pub grants-go-to-the-up : GrantsGoToTheUp
grants-go-to-the-up setup events one m s e at =
    (led-step (replay setup events) one (good-world setup events)).onward.granted m s e
    (subst (λ (world : World). WasCommitted world.sent m s e) (replay_from-push (opening setup) events one) at)

granted-from : (world : World) (more : List Event) (m : ServerId) (s e : ℕ) → GoodWorld world →
    has_crashed world.coordinator.servers m ≡ true → WasCommitted (replay_from world more).sent m s e →
    WasCommitted world.sent m s e
granted-from world [] m s e good has at = at
granted-from world (one ∷ more) m s e good has at =
    by (led.onward.granted m s e (granted-from (step world one) more m s e led.good (led.onward.c_later.crashed m has) at))
  where
    led : GoodStep world (step world one)
    led = led-step world one good

    by : WasCommitted world.sent m s e ⊎ (is_up world.coordinator.servers m ≡ true) → WasCommitted world.sent m s e
    by (inl there) = there
    by (inr up) = true_false (sym up ∙ crashed-not-up world.coordinator.servers m has)

pub crashed-are-granted-no-more : CrashedAreGrantedNoMore
crashed-are-granted-no-more setup events more m s e has at =
    search (arith, granted-from, good-world, replay_from-append)
