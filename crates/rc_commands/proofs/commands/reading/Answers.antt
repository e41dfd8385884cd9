use Rattle.std.proofs.Common.{◌∙◌, ap}
use Rattle.std.proofs.lemmas.Result.{IfOk-weaker}
use Rattle.rc_commands.specs.Commands as spec
use Rattle.rc_commands.proofs.Tops.{and}
use Rattle.rc_commands.proofs.commands.reading.Goals as goal

pub returns : goal.returns
returns c =
    let replaying = c.in_ok-replaying.ensures spec.run c.run.ensures ∙ ap (and spec.run) c.in_ok-alone.ensures in
    let tracing = c.in_ok-tracing.ensures spec.trace c.trace.ensures ∙ ap (and spec.trace) replaying in
    let judging = c.in_ok-judging.ensures spec.audit c.audit.ensures ∙ ap (and spec.audit) tracing in
    IfOk-weaker c.with-4.result _ _ (λ p h. h spec.log c.log.ensures ∙ ap (and spec.log) judging) c.with-4.ensures
