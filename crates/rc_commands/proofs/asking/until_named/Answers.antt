use Rattle.std.proofs.Common.{◌≡◌, ◌∙◌, ap, sym}
use Rattle.std.proofs.lemmas.Result.{IfOk-weaker}
use Rattle.clap.specs.Words.{found_of, rows_of}
use Rattle.rc_commands.specs.Asking.{until_in}
use Rattle.rc_commands.proofs.asking.until_named.Goals as goal

pub returns-in-Ok-clause-command : goal.returns-in-Ok-clause-command
returns-in-Ok-clause-command c =
    let kept : c.from_vec-goal.result ≡ c.args.name.now =
    c.from_vec-goal.ensures ∙ c.in_ok-to_vec.ensures.items_if_clones_equal (λ x y h. h) ∙ c.as_bytes.ensures.value in
    c.in-Ok.ensures.command ∙ ap (λ name. until_in name (rows_of (found_of c.args.given.now))) kept

pub returns-in-Err-clause-command : goal.returns-in-Err-clause-command
returns-in-Err-clause-command c =
    let kept : c.from_vec-goal.result ≡ c.args.name.now =
    c.from_vec-goal.ensures ∙ c.in_ok-to_vec.ensures.items_if_clones_equal (λ x y h. h) ∙ c.as_bytes.ensures.value in
    IfOk-weaker c.wrong.result _ _
    (λ a h. h ∙ sym c.in-Err.ensures.command ∙ ap (λ name. until_in name (rows_of (found_of c.args.given.now))) kept)
    c.wrong.ensures.command
