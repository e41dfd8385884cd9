use Rattle.std.proofs.Common.{◌<◌, subst, sym, ap, ◌∙◌}
use Rattle.rc_model.specs.Model.{Log, left_out, with_freed}
use Rattle.rc_headroll.specs.LogData.{log_of}
use Rattle.rc_headroll.proofs.LogSteps.{may_write-more}
use Rattle.rc_headroll.proofs.log.LogHead.write_on.Goals as goal

pub free_left_out-requires : goal.free_left_out-requires
free_left_out-requires c =
    subst (λ (log : Log). 1 < log.head) (sym c.begin_writing.ensures.writing)
    (may_write-more (log_of c.args.self.now) c.requires)

pub returns-clause-written : goal.returns-clause-written
returns-clause-written c =
    c.free_left_out.ensures.freed
    ∙ ap (λ (log : Log). with_freed (left_out log) log) c.begin_writing.ensures.writing
