use Rattle.std.proofs.Common.{◌∙◌, ap}
use Rattle.std.proofs.lemmas.Result.{IfOk-weaker}
use Rattle.rc_commands.specs.Commands as spec
use Rattle.rc_commands.proofs.Tops.{and}
use Rattle.rc_commands.proofs.commands.program.Goals as goal

pub returns : goal.returns
returns c =
    let exploring = c.in_ok-exploring.ensures spec.explore c.explore.ensures ∙ ap (and spec.explore) c.in_ok-running.ensures in
    let shrinking = c.in_ok-shrinking.ensures spec.shrink c.shrink.ensures ∙ ap (and spec.shrink) exploring in
    let healing = c.in_ok-healing.ensures spec.heal c.heal.ensures ∙ ap (and spec.heal) shrinking in
    let telling = c.in_ok-telling.ensures spec.history c.history.ensures ∙ ap (and spec.history) healing in
    IfOk-weaker c.with-5.result _ _ (λ p h. h spec.check c.check.ensures ∙ ap (and spec.check) telling) c.with-5.ensures
