use Rattle.std.proofs.Common.{◌∙◌, ap}
use Rattle.std.proofs.lemmas.Result.{IfOk-weaker}
use Rattle.rc_commands.specs.Commands as spec
use Rattle.rc_commands.proofs.Tops.{and}
use Rattle.rc_commands.proofs.commands.running.Goals as goal

pub returns : goal.returns
returns c =
    let drawing = c.in_ok-drawing.ensures spec.fuzz c.fuzz.ensures ∙ ap (and spec.fuzz) c.in_ok-reading.ensures in
    let stopping = c.in_ok-stopping.ensures spec.stops c.stops.ensures ∙ ap (and spec.stops) drawing in
    IfOk-weaker c.with-3.result _ _ (λ p h. h spec.threads c.threads.ensures ∙ ap (and spec.threads) stopping) c.with-3.ensures
