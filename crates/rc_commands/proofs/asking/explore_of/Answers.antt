use Rattle.std.proofs.Common.{◌∙◌, Some, None, ap, codes, sym}
use Rattle.std.proofs.lemmas.Result.{IfOk-weaker}
use Rattle.clap.specs.Words.{found_of, rows_of}
use Rattle.rc_commands.specs.Asking.{explore_by}
use Rattle.rc_commands.proofs.Decimals.{as_found}
use Rattle.rc_commands.proofs.asking.explore_of.Goals as goal

pub returns-in-Some-clause-command : goal.returns-in-Some-clause-command
returns-in-Some-clause-command c =
    IfOk-weaker c.until_named.result _ _
    (λ a h. h ∙ ap (λ name. explore_by name (rows_of (found_of c.args.given.now)))
    (sym (as_found (found_of c.args.given.now) (codes "until") (Some c.in-Some.goal) c.in-Some.ensures)))
    c.until_named.ensures.command

pub returns-in-None-clause-command : goal.returns-in-None-clause-command
returns-in-None-clause-command c =
    IfOk-weaker c.drawn.result _ _
    (λ a h. h ∙ ap (λ name. explore_by name (rows_of (found_of c.args.given.now)))
    (sym (as_found (found_of c.args.given.now) (codes "until") None c.in-None.ensures)))
    c.drawn.ensures.command
