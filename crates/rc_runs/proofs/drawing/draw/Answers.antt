use Rattle.std.proofs.Common.{◌≡◌, ◌≤◌, ◌∙◌, subst, sym, length, List}
use Rattle.std.proofs.lemmas.Result.{IfOk-weaker}
use Rattle.rc_model.specs.Model.{Event, MAX_EVENTS}
use Rattle.rc_runs.specs.Draw.{drawn}
use Rattle.rc_runs.proofs.drawing.draw.Goals as goal

pub returns-in-Ok-clause-ok : goal.returns-in-Ok-clause-ok
returns-in-Ok-clause-ok c =
    IfOk-weaker c.copied.result (λ copies. copies.items ≡ c.events.result.now)
    (λ copies. copies.items ≡ drawn c.args.seed c.args.steps c.args.free)
    (λ copies same. same ∙ (c.events.ensures.events ∙ c.in-Ok.ensures.events))
    c.copied.ensures

pub returns-in-Ok-clause-few : goal.returns-in-Ok-clause-few
returns-in-Ok-clause-few c =
    IfOk-weaker c.copied.result (λ copies. copies.items ≡ c.events.result.now) (λ copies. length copies.items ≤ MAX_EVENTS)
    (λ copies same. let P : List Event → Type 0 = λ events. length events ≤ MAX_EVENTS in subst P (sym same) c.events.ensures.few)
    c.copied.ensures
