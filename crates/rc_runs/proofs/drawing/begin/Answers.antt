use Rattle.std.proofs.Common.{◌≡◌, List, [], ◌∷◌, refl, subst}
use Rattle.std.specs.Prelude.{OnOk}
use Rattle.rc_types.specs.declared.events.Event.TheVariants.{Start, Order}
use Rattle.rc_types.specs.declared.events.Order.TheVariants.{Create}
use Rattle.rc_reading.specs.declared.scenarios.ScenarioEvent.{ScenarioEvent}
use Rattle.rc_reading.specs.declared.scenarios.ScenarioEvent.TheVariants.{Core}
use Rattle.rc_world.specs.Happened.{replayed}
use Rattle.rc_runs.specs.Draw.{settled, beginning, played}
use Rattle.rc_runs.proofs.drawing.begin.Goals as goal

is-beginning : (a b c d e f g : ScenarioEvent) → a ≡ Core (Start 0 []) → b ≡ Core (Start 1 []) → c ≡ Core (Start 2 []) →
    d ≡ Core (Start 3 []) → e ≡ Core (Start 4 []) → f ≡ settled → g ≡ settled →
    a ∷ b ∷ c ∷ d ∷ e ∷ f ∷ Core (Order (Create 1 (record { index = 0; generation = 1 }))) ∷ g ∷ [] ≡ beginning
is-beginning a b c d e f g p q r s t u v = rw (p, q, r, s, t, u, v) refl

pub returns : goal.returns
returns c =
    subst (λ (events : List ScenarioEvent). OnOk c.play.result (replayed c.play.new.run ≡ played (replayed c.args.run.now) events))
    (is-beginning c.fresh_start.result c.fresh_start-2.result c.fresh_start-3.result c.fresh_start-4.result c.fresh_start-5.result
    c.settled.result c.settled-2.result c.fresh_start.ensures c.fresh_start-2.ensures c.fresh_start-3.ensures c.fresh_start-4.ensures
    c.fresh_start-5.ensures c.settled.ensures c.settled-2.ensures) c.play.ensures
